-- the clauses of the slots so far were added
use Rattle.std.specs.Prelude.{flat_map}
use Rattle.fpga_types.specs.Slots.{slots}
use Rattle.route_encode.specs.Adding.{Adds}
use Rattle.route_encode.specs.Encoding.{below}
use Rattle.route_reach.specs.Near.{near_of}
use Rattle.route_reach.specs.WireClauses.{slot_comes}
use Rattle.route_reach.proofs.nearby.add_nearby.Given as goal

abbrev pub invariant-loop-slot : goal.invariant-loop-slot
invariant-loop-slot l = Adds l.initial.formula
    (flat_map (λ s. slot_comes l.variables.wires l.variables.reach l.graph (slots l.problem.route)
    (near_of l.problem.route s) s) (below l.slot)) l.formula
