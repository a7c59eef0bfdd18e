-- The steps of some nets, over slots that are numbered already.
use Rattle.std.specs.Prelude.{ℕ, List, filter_map, flat_map, Option, Some, None, option_map}
use Rattle.std.specs.List.{enumerate_from}
use Rattle.fpga_types.specs.Slots.{adjacent, elem_slot, slot_number, step_of}
use Rattle.fpga_types.specs.declared.problem.RouteStep.{RouteStep}
use Rattle.fpga_types.specs.declared.problem.Slot.{Slot}
use Rattle.fpga_types.specs.declared.route.Elem.{Elem}
use Rattle.fpga_types.specs.declared.route.RouteNet.{RouteNet}

-- the number of the element's slot, if it is a channel
abbrev pub elem_number : List Slot → ℕ → Elem → Option ℕ
elem_number all net e = option_map (slot_number all) (elem_slot net e)

-- two slot numbers make a step
abbrev pub step_between : Option ℕ → Option ℕ → Option RouteStep
step_between (Some from) (Some to) = Some (record { from = from; to = to })
step_between _ _ = None

-- the steps of the elements of the net at this position
abbrev pub net_steps : List Slot → ℕ → List Elem → List RouteStep
net_steps all net elems =
    filter_map (λ p. step_of all (elem_slot net p.0) (elem_slot net p.1)) (adjacent elems)

-- the steps of some nets
abbrev pub steps_in : List Slot → List RouteNet → List RouteStep
steps_in all nets = flat_map (λ n. net_steps all n.0 n.1.elems) (enumerate_from 0 nets)
