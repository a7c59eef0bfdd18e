-- The pin steps of some nets, over slots that are numbered already.
use Rattle.std.specs.Prelude.{ℕ, List, filter_map, flat_map, Option}
use Rattle.std.specs.List.{enumerate_from}
use Rattle.fpga_types.specs.Slots.{adjacent, either, elem_pin, elem_slot, pin_step_of}
use Rattle.fpga_types.specs.declared.problem.PinStep.{PinStep}
use Rattle.fpga_types.specs.declared.problem.Slot.{Slot}
use Rattle.fpga_types.specs.declared.route.Elem.{Elem}
use Rattle.fpga_types.specs.declared.route.RouteNet.{RouteNet}

-- the pin step of two elements next to each other in a net, either way round
abbrev pub pin_step_beside : List Slot → ℕ → Elem × Elem → Option PinStep
pin_step_beside all net p = either (pin_step_of all (elem_pin p.0) (elem_slot net p.1))
    (pin_step_of all (elem_pin p.1) (elem_slot net p.0))

-- the pin steps of the elements of the net at this position
abbrev pub net_pin_steps : List Slot → ℕ → List Elem → List PinStep
net_pin_steps all net elems = filter_map (pin_step_beside all net) (adjacent elems)

-- the pin steps of some nets
abbrev pub pin_steps_in : List Slot → List RouteNet → List PinStep
pin_steps_in all nets = flat_map (λ n. net_pin_steps all n.0 n.1.elems) (enumerate_from 0 nets)
