-- The faults of the nets of a route from one on, and the slots once some of its elements are read.
use Rattle.std.specs.Prelude.{◌≡◌, ℕ, List, [], ◌∷◌, ◌++◌, map, flat_map, take, drop, Option, Some, None, length, ◌<◌, false}
use Rattle.std.specs.List.{list_any}
use Rattle.std.specs.Option.{option_map_or}
use Rattle.fpga_text.specs.FirstFault.{Faults}
use Rattle.fpga_text.specs.declared.fault.TextFault.{TextFault}
use Rattle.fpga_types.specs.Fit.{RouteLine, net_lines, splits}
use Rattle.fpga_types.specs.Slots.{elem_slot, same_slot, slots_of}
use Rattle.fpga_types.specs.declared.limits.TheConstants.{SLOT_LIMIT}
use Rattle.fpga_types.specs.declared.problem.Slot.{Slot}
use Rattle.fpga_types.specs.declared.route.Elem.{Elem}
use Rattle.fpga_types.specs.declared.route.RouteNet.{RouteNet}
use Rattle.fpga_bounds.specs.SlotTable.{with_slot}

-- the Net line of a net
abbrev pub head_line : List RouteNet → RouteNet → RouteLine
head_line earlier net =
    record { earlier = earlier; net = net; before = []; elem = None; after = net.elems }

-- the line of an element that stands between these
abbrev pub line_at : List RouteNet → RouteNet → List Elem × Elem × List Elem → RouteLine
line_at earlier net s =
    record { earlier = earlier; net = net; before = s.0; elem = Some s.1; after = s.2 }

-- the faults of the lines of a net from an element on, where each line has this fault
abbrev pub elems_faults : (RouteLine → Option TextFault) → List RouteNet → RouteNet → ℕ → Faults
elems_faults fault earlier net i = map fault (map (line_at earlier net) (drop i (splits net.elems)))

-- the faults of the lines of the nets from this position on
abbrev pub nets_faults : (RouteLine → Option TextFault) → List RouteNet → ℕ → Faults
nets_faults fault nets n = map fault (flat_map (λ s. net_lines s.0 s.1) (drop n (splits nets)))

-- the slots with that of the element, if it is a channel
abbrev pub with_elem : List Slot → ℕ → Elem → List Slot
with_elem all net e = option_map_or (with_slot all) (elem_slot net e) all

-- the slots of the nets before one, and of the first elements of that
abbrev pub slots_so_far : List RouteNet → RouteNet → ℕ → List Slot
slots_so_far earlier net count =
    slots_of (earlier ++ record net { elems = take count net.elems } ∷ [])

-- where the element brings a slot that is none of these, there are fewer than 200,000
abbrev pub HasRoomFor : List Slot → ℕ → Elem → Type 0
HasRoomFor all net e = (s : Slot) → elem_slot net e ≡ Some s → list_any (same_slot s) all ≡ false
    → length all < SLOT_LIMIT
