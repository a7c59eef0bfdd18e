-- The clauses of a problem as they are added.
use Rattle.std.specs.Prelude.{ℕ, List, [], ◌∷◌, ◌++◌, length, map, flat_map}
use Rattle.fpga_types.specs.Boxes.{opens}
use Rattle.fpga_types.specs.Problem.{RoutingProblem}
use Rattle.fpga_types.specs.Slots.{pin_steps, slots, steps}
use Rattle.fpga_types.specs.Tracks.{mapped_track, track_across}
use Rattle.fpga_types.specs.declared.problem.PinStep.{PinStep}
use Rattle.fpga_types.specs.declared.problem.RouteStep.{RouteStep}
use Rattle.fpga_types.specs.declared.problem.Slot.{Slot}
use Rattle.fpga_graph.specs.Crossing.{crossed_track}
use Rattle.fpga_graph.specs.GraphOf.{GraphOf}
use Rattle.fpga_graph.specs.declared.crossing.Crossing.{Crossing}
use Rattle.sat_clause.specs.Literal.{Clause}
use Rattle.route_encode.specs.Encoding.{below, has, joined_track, lacks, one_track, open_track, some_track}
use Rattle.route_encode.specs.Rivals.{apart_from_rivals}

-- the wires that the problem is to be routed on
abbrev pub graph_of : ℕ → RoutingProblem → GraphOf
graph_of width p = record { arch = p.arch; grid = p.route.grid; width = width }

-- each of so many slots has a track, and no two
abbrev pub slot_clauses : (width count : ℕ) → List Clause
slot_clauses width count =
    map (some_track width) (below count) ++ flat_map (one_track width) (below count)

-- no slot next to a pin has a track that the pin does not open
abbrev pub pin_clauses : GraphOf → List PinStep → List Clause
pin_clauses g pins = flat_map (open_track (opens g.arch g.width) g.width) pins

-- where the first slot of a step has a track, the second has the one that it is joined to
abbrev pub step_clauses : GraphOf → List Slot → RouteStep → List Clause
step_clauses g all step =
    joined_track (track_across (mapped_track g.arch.pattern g.width) g.grid) g.width all step

-- the same by the crossing of its cells
abbrev pub crossed_clauses : ℕ → RouteStep → Crossing → List Clause
crossed_clauses width step crossing =
    map (λ t. lacks width step.from t ∷ has width step.to (crossed_track crossing t) ∷ [])
    (below width)

-- the clauses of a problem, where those that keep nets apart go slot by slot
abbrev pub added_clauses : ℕ → RoutingProblem → List Clause
added_clauses width p =
    let all : List Slot = slots p.route in
    slot_clauses width (length all)
    ++ pin_clauses (graph_of width p) (pin_steps p.route)
    ++ flat_map (step_clauses (graph_of width p) all) (steps p.route)
    ++ flat_map (apart_from_rivals width all) (below (length all))
