-- The nets of the routing within a reach that truth values stand for.
use Rattle.std.specs.Prelude.{◌≡◌, ℕ, suc, ◌<◌, ◌==◌, ◌&&◌, false, not, true, Contains, List, Some, drop, length, slice_get, take}
use Rattle.fpga_bounds.specs.NetFit.{line_at}
use Rattle.fpga_types.specs.Problem.{RoutingProblem}
use Rattle.fpga_types.specs.Slots.{slot_at}
use Rattle.fpga_types.specs.declared.grid.Wire.{Wire}
use Rattle.fpga_types.specs.declared.route.Elem.{Elem}
use Rattle.fpga_types.specs.declared.route.RouteNet.{RouteNet}
use Rattle.route_encode.specs.Said.{says}
use Rattle.route_reach.specs.Encoding.{wire_at}
use Rattle.route_reach.specs.Good.{IsRoutedNet}
use Rattle.route_reach.specs.Modelled.{ModelOf, graph_in, slots_in_model}
use Rattle.route_reach.specs.Printing.{AreApart}
use Rattle.route_reach.specs.Quiet.{IsQuiet}
use Rattle.route_verify.specs.Reach.{reach_line}
use Rattle.route_verify.specs.Wiring.{elem_wire}

-- the wire is that of a slot of the net at position n, and by the values the slot uses its track
pub record IsWireOfNet (m : ModelOf) (n : ℕ) (w : Wire) : Type 0 where
  pub slot : ℕ
  pub track : ℕ
  pub low : slot < length (slots_in_model m)
  pub own : (slot_at (slots_in_model m) slot).net ≡ n
  pub inside : track < m.width
  pub used : says m.values m.width slot track ≡ true
  pub is : wire_at (slots_in_model m) slot track ≡ w

-- the net at position n of the global route as it is routed: over wires of its slots that are used,
-- and behind nets that share no wire and no pin with it no cause holds at any of its lines
pub record IsDecodedNet (m : ModelOf) (n : ℕ) (net found : RouteNet) : Type 0 where
  pub routed : IsRoutedNet net found
  pub some : (not found.global && length found.elems == 0) ≡ false
  pub wires : (e : Elem) (w : Wire) → Contains found.elems e → elem_wire e ≡ Some w
      → IsWireOfNet m n w
  pub quiet : (earlier : List RouteNet) (i : ℕ) (e : Elem) → AreApart earlier found
      → slice_get found.elems i ≡ Some e → IsQuiet (graph_in m) m.reach (reach_line m.problem
      (line_at earlier found (take i found.elems, e, drop (suc i) found.elems)))

-- the first so many nets
pub record AreDecoded (m : ModelOf) (count : ℕ) (nets : List RouteNet) : Type 0 where
  pub each : length nets ≡ count
  pub net : (k : ℕ) (given found : RouteNet) → (let p : RoutingProblem = m.problem in
      slice_get p.route.nets k ≡ Some given) → slice_get nets k ≡ Some found
      → IsDecodedNet m k given found
