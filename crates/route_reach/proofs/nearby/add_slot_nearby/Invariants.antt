-- the clauses of the tracks so far were added
use Rattle.std.specs.Prelude.{flat_map}
use Rattle.fpga_graph.specs.GraphOf.{GraphOf}
use Rattle.route_encode.specs.Adding.{Adds}
use Rattle.route_encode.specs.Encoding.{below, place_of}
use Rattle.route_reach.specs.WireClauses.{comes_clauses, wires_beside}
use Rattle.route_reach.proofs.nearby.add_slot_nearby.Given as goal

abbrev pub invariant-loop-track : goal.invariant-loop-track
invariant-loop-track l = let g : GraphOf = l.graph in Adds l.initial.formula
    (flat_map (λ t. comes_clauses l.variables.wires l.variables.reach (place_of g.width l.slot t)
    (wires_beside g l.slots l.near l.slot t)) (below l.track)) l.formula
