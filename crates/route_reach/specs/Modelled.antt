-- Truth values that satisfy the clauses of a problem for a reach, and a net of it.
use Rattle.arrayvec.specs.ArrayVec.{ArrayVec}
use Rattle.std.specs.Prelude.{◌≡◌, ◌↔◌, ℕ, ◌*◌, ◌<◌, ◌≤◌, Bool, false, true, Contains, List, length, map, Some, slice_get}
use Rattle.std.specs.List.{list_any}
use Rattle.std.specs.Option.{option_map_or}
use Rattle.fpga_graph.specs.GraphOf.{GraphOf}
use Rattle.fpga_types.specs.Fits.{Fits}
use Rattle.fpga_types.specs.Given.{IsGiven}
use Rattle.fpga_types.specs.Problem.{RoutingProblem}
use Rattle.fpga_types.specs.Slots.{slot_at, slots}
use Rattle.fpga_types.specs.declared.limits.TheConstants.{REACH_LIMIT, SLOT_LIMIT, WIDTH_LIMIT}
use Rattle.fpga_types.specs.declared.grid.Wire.{Wire}
use Rattle.fpga_types.specs.declared.problem.Slot.{Slot}
use Rattle.fpga_types.specs.declared.route.Elem.{Elem}
use Rattle.fpga_types.specs.declared.route.RouteNet.{RouteNet}
use Rattle.sat_clause.specs.Formula.{Satisfies}
use Rattle.route_encode.specs.Added.{graph_of}
use Rattle.route_encode.specs.Encoding.{below}
use Rattle.route_reach.specs.Encoding.{Frame, frame_of, reach_cnf, reaches, wire_at}
use Rattle.route_reach.specs.Ends.{opin_of, outs_at}
use Rattle.route_reach.specs.Near.{near_of, rows_of}
use Rattle.route_reach.specs.WireClauses.{wires_beside}

-- values for the clauses of a problem at a width, for a reach
pub record ModelOf : Type 0 where
  pub width : ℕ
  pub reach : ℕ
  pub problem : RoutingProblem
  pub values : List Bool

abbrev pub frame_in : ModelOf → Frame
frame_in m = frame_of m.width m.reach m.problem

abbrev pub graph_in : ModelOf → GraphOf
graph_in m = graph_of m.width m.problem

abbrev pub slots_in_model : ModelOf → List Slot
slots_in_model m = let p : RoutingProblem = m.problem in slots p.route

-- how many wires there are
abbrev pub wire_count : ModelOf → ℕ
wire_count m = length (slots_in_model m) * m.width

-- the width, the reach and the slots are within their limits
pub record IsWithinLimits (m : ModelOf) : Type 0 where
  pub some : 1 ≤ m.width
  pub most : m.width ≤ WIDTH_LIMIT
  pub near : m.reach ≤ REACH_LIMIT
  pub few : length (slots_in_model m) ≤ SLOT_LIMIT

-- the rows have the slots near each slot
abbrev pub AreNear : ModelOf → List (ArrayVec ℕ) → Type 0
AreNear m table = let p : RoutingProblem = m.problem in
    rows_of table ≡ map (near_of p.route) (below (length (slots p.route)))

-- the problem fits, the values satisfy the clauses, and the model is read by the graph, the slots,
-- and the slots near each slot
pub record IsReadBy (m : ModelOf) (g : GraphOf) (all : List Slot) (table : List (ArrayVec ℕ))
    : Type 0 where
  pub graph : g ≡ graph_in m
  pub slots : all ≡ slots_in_model m
  pub near : AreNear m table
  pub given : IsGiven m.problem
  pub fits : Fits m.problem
  pub limits : IsWithinLimits m
  pub satisfies : Satisfies m.values (reach_cnf m.width m.reach m.problem)

-- the line is an OPIN whose pin reaches the wire
abbrev pub is_source_of : GraphOf → Wire → Elem → Bool
is_source_of g w e = option_map_or (λ out. reaches g out w) (opin_of e) false

-- the line is an OPIN of the net, whose pin reaches the wire
pub record IsSourceOf (g : GraphOf) (net : RouteNet) (w : Wire) (e : Elem) : Type 0 where
  pub among : Contains net.elems e
  pub reaches : is_source_of g w e ≡ true

-- a pin of the source of the slot's net reaches the slot's wire of the track
abbrev pub is_begun : ModelOf → (s t : ℕ) → Bool
is_begun m s t = let p : RoutingProblem = m.problem in
    list_any (λ out. reaches (graph_in m) out (wire_at (slots p.route) s t))
    (outs_at p.route (slot_at (slots p.route) s).net)

-- the places of the wires near the slot's wire of the track
abbrev pub places_beside : ModelOf → (s t : ℕ) → List ℕ
places_beside m s t = let p : RoutingProblem = m.problem in
    wires_beside (graph_in m) (slots p.route) (near_of p.route s) s t

-- the net at a position, whose slots are those from the first up to the end
pub record NetOf : Type 0 where
  pub model : ModelOf
  pub number : ℕ
  pub net : RouteNet
  pub first : ℕ
  pub end : ℕ

abbrev pub net_given : ModelOf → (number : ℕ) → RouteNet → (first end : ℕ) → NetOf
net_given model number net first end = record {
  model = model;
  number = number;
  net = net;
  first = first;
  end = end;
}

-- the net is the one at its position, and its slots are these and no others
pub record IsNetOf (n : NetOf) : Type 0 where
  pub limits : IsWithinLimits n.model
  pub here : let p : RoutingProblem = n.model.problem in
      slice_get p.route.nets n.number ≡ Some n.net
  pub order : n.first ≤ n.end
  pub within : n.end ≤ length (slots_in_model n.model)
  pub stretch : (s : ℕ) → s < length (slots_in_model n.model)
      → (slot_at (slots_in_model n.model) s).net ≡ n.number ↔ ((n.first ≤ s) × (s < n.end))

-- the slots before this one are of nets before position n, and the others are not
pub record IsStart (all : List Slot) (n first : ℕ) : Type 0 where
  pub within : first ≤ length all
  pub before : (s : ℕ) → s < first → (slot_at all s).net < n
  pub behind : (s : ℕ) → first ≤ s → s < length all → n ≤ (slot_at all s).net
