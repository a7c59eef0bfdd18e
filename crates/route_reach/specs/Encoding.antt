-- The clauses of a routing within a reach, in an order of this project. A variable says that a slot
-- uses a track, another that the slot's wire of that track is reached within so many joins.
use Rattle.std.specs.Prelude.{ℕ, suc, ◌+◌, ◌*◌, ◌==◌, Bool, false, not, ◌&&◌, pos, negsuc, List, [], ◌∷◌, ◌++◌, length, map, filter, flat_map}
use Rattle.std.specs.List.{list_any}
use Rattle.std.specs.Option.{option_map_or}
use Rattle.fpga_types.specs.Boxes.{opens}
use Rattle.fpga_types.specs.Problem.{RoutingProblem}
use Rattle.fpga_types.specs.Slots.{numbered_nets, pairs, slot_at, slots}
use Rattle.fpga_types.specs.Touching.{touches}
use Rattle.fpga_types.specs.Tracks.{mapped_track, track_across}
use Rattle.fpga_types.specs.declared.grid.PinAt.{PinAt}
use Rattle.fpga_types.specs.declared.grid.Wire.{Wire}
use Rattle.fpga_types.specs.declared.problem.Slot.{Slot}
use Rattle.fpga_types.specs.declared.route.RouteNet.{RouteNet}
use Rattle.fpga_types.specs.declared.route.RouteText.{RouteText}
use Rattle.fpga_graph.specs.GraphOf.{GraphOf}
use Rattle.fpga_graph.specs.Wires.{wire_in}
use Rattle.sat_clause.specs.declared.literal.Lit.{Lit}
use Rattle.sat_clause.specs.Formula.{Cnf}
use Rattle.sat_clause.specs.Literal.{Clause, lit}
use Rattle.route_encode.specs.Added.{graph_of}
use Rattle.route_encode.specs.Encoding.{apart_track, below, has, place_of}
use Rattle.route_reach.specs.Ends.{ins, outs_at}

-- a switch block joins the first wire to the second
abbrev pub joins : GraphOf → Wire → Wire → Bool
joins g u v = option_map_or (λ t. t == v.track)
    (track_across (mapped_track g.arch.pattern g.width) g.grid u.cell v.cell u.track) false

-- the pin touches the cell of the wire and opens its track
abbrev pub reaches : GraphOf → PinAt → Wire → Bool
reaches g pin w = touches g.arch g.grid pin w.cell && opens g.arch g.width pin w.track

-- the wire of a slot and a track
abbrev pub wire_at : List Slot → (s t : ℕ) → Wire
wire_at all s t = wire_in (slot_at all s).cell t

-- the slots of the net at a position, rising
abbrev pub slots_in : List Slot → ℕ → List ℕ
slots_in all n = filter (λ s. (slot_at all s).net == n) (below (length all))

-- what each clause is about: the wires of a fabric, the slots of a route, and the number of joins
pub record Frame : Type 0 where
  pub graph : GraphOf
  pub all : List Slot
  pub reach : ℕ

abbrev pub frame_of : (width reach : ℕ) → RoutingProblem → Frame
frame_of width reach p =
    record { graph = graph_of width p; all = slots p.route; reach = reach }

-- how many variables there are
abbrev pub variables_in : Frame → ℕ
variables_in f = let g : GraphOf = f.graph in length f.all * g.width * (f.reach + 2)

-- the place among all variables of the one that says that the wire of slot s and track t is reached
-- within d joins: behind those that say that slots use tracks
abbrev pub reached_place : Frame → (s t d : ℕ) → ℕ
reached_place f s t d = let g : GraphOf = f.graph in
    length f.all * g.width + place_of g.width s t * (f.reach + 1) + d

-- slot s uses track t
abbrev pub uses : Frame → (s t : ℕ) → Lit
uses f s t = let g : GraphOf = f.graph in has g.width s t

-- the wire of slot s and track t is reached within d joins
abbrev pub reached : Frame → (s t d : ℕ) → Lit
reached f s t d = lit (pos (suc (reached_place f s t d)))

-- it is not
abbrev pub unreached : Frame → (s t d : ℕ) → Lit
unreached f s t d = lit (negsuc (reached_place f s t d))

-- the tracks of slot s that the pin reaches, rising
abbrev pub tracks_to : Frame → PinAt → (s : ℕ) → List ℕ
tracks_to f pin s = let g : GraphOf = f.graph in
    filter (λ t. reaches g pin (wire_at f.all s t)) (below g.width)

-- slots of the net of slot s and tracks whose wire is joined to that of s and track t, rising
abbrev pub near : Frame → (s t : ℕ) → List (ℕ × ℕ)
near f s t = let g : GraphOf = f.graph in
    flat_map (λ r. map (λ u. (r, u))
    (filter (λ u. joins g (wire_at f.all r u) (wire_at f.all s t)) (below g.width)))
    (slots_in f.all (slot_at f.all s).net)

-- some clauses for each slot and track, rising
abbrev pub each_wire : Frame → (ℕ → ℕ → List Clause) → List Clause
each_wire f clauses = let g : GraphOf = f.graph in
    flat_map (λ s. flat_map (clauses s) (below g.width)) (below (length f.all))

-- the pin is reached over a wire of a slot of the net at this position
abbrev pub sink_clause : Frame → (n : ℕ) → PinAt → Clause
sink_clause f n pin =
    flat_map (λ s. map (λ t. reached f s t f.reach) (tracks_to f pin s)) (slots_in f.all n)

-- each sink of a net is reached
abbrev pub sinks_reached : Frame → ℕ × RouteNet → List Clause
sinks_reached f n = map (sink_clause f n.0) (ins n.1)

-- the tracks of slot s at which no pin of its net's OPIN lines reaches the slot's wire, rising
abbrev pub far_tracks : Frame → RouteText → (s : ℕ) → List ℕ
far_tracks f route s = let g : GraphOf = f.graph in
    filter (λ t. not (list_any (λ out. reaches g out (wire_at f.all s t))
    (outs_at route (slot_at f.all s).net))) (below g.width)

-- a wire that none of these pins reaches is not reached without a join
abbrev pub starts_at_source : Frame → RouteText → (s : ℕ) → List Clause
starts_at_source f route s = map (λ t. unreached f s t 0 ∷ []) (far_tracks f route s)

-- a wire that is reached is used
abbrev pub reached_is_used : Frame → (s t : ℕ) → List Clause
reached_is_used f s t =
    map (λ d. unreached f s t d ∷ uses f s t ∷ []) (below (f.reach + 1))

-- a wire that is reached within some joins is so within one more
abbrev pub stays_reached : Frame → (s t : ℕ) → List Clause
stays_reached f s t =
    map (λ d. unreached f s t d ∷ reached f s t (d + 1) ∷ []) (below f.reach)

-- a wire that is reached within one join more is so within the others, or one joined to it is
abbrev pub comes_from_near : Frame → (s t : ℕ) → List Clause
comes_from_near f s t = let beside : List (ℕ × ℕ) = near f s t in
    map (λ d. unreached f s t (d + 1) ∷ reached f s t d
    ∷ map (λ q. reached f q.0 q.1 d) beside) (below f.reach)

-- the clauses of a route
abbrev pub reach_encoding : Frame → RouteText → List Clause
reach_encoding f route = let g : GraphOf = f.graph in
    flat_map (sinks_reached f) (numbered_nets route)
    ++ flat_map (starts_at_source f route) (below (length f.all))
    ++ each_wire f (reached_is_used f)
    ++ each_wire f (stays_reached f)
    ++ each_wire f (comes_from_near f)
    ++ flat_map (apart_track g.width) (pairs f.all)

-- the clauses of a problem as a formula
abbrev pub reach_cnf : (width reach : ℕ) → RoutingProblem → Cnf
reach_cnf width reach p = let f : Frame = frame_of width reach p in
    record { vars = variables_in f; clauses = reach_encoding f p.route }
