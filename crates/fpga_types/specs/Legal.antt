-- What a legal routing is: one track for each cell of each net, joined by switches, open to the
-- pins, and shared with no other net.
use Rattle.std.specs.Prelude.{◌≡◌, ◌≢◌, ℕ, ◌<◌, Bool, false, List, length, map, find, All, slice_get, slice_index, option_and_then, ⊤}
use Rattle.std.specs.Option.{option_map_or}
use Rattle.fpga_types.specs.Boxes.{Opens}
use Rattle.fpga_types.specs.Tracks.{AreJoined, mapped_track, subset_track}
use Rattle.fpga_types.specs.Slots.{elem_slot, same_slot, slots, steps, pin_steps, slot_at, slot_number, numbered_nets}
use Rattle.fpga_types.specs.declared.arch.Arch.{Arch}
use Rattle.fpga_types.specs.declared.grid.PinAt.{PinAt}
use Rattle.fpga_types.specs.declared.grid.Wire.{Wire}
use Rattle.fpga_types.specs.declared.route.Elem.{Elem}
use Rattle.fpga_types.specs.declared.route.RouteNet.{RouteNet}
use Rattle.fpga_types.specs.declared.route.RouteText.{RouteText}
use Rattle.fpga_types.specs.declared.problem.Slot.{Slot}

-- the wire of a slot, where each slot has a track
abbrev pub wire_of : List Slot → List ℕ → ℕ → Wire
wire_of all tracks s = record { cell = (slot_at all s).cell; track = slice_index tracks s }

-- one track for each slot: those of a step are joined, those next to a pin are open to it, and no
-- two nets share a wire
pub record IsLegal (joins : Wire → Wire → Type 0) (open_to : PinAt → ℕ → Type 0) (width : ℕ)
    (route : RouteText) (tracks : List ℕ) : Type 0 where
  pub each : length tracks ≡ length (slots route)
  pub within : All (λ t. t < width) tracks
  pub joined : All (λ s. joins (wire_of (slots route) tracks s.from)
      (wire_of (slots route) tracks s.to)) (steps route)
  pub reached : All (λ p. open_to p.pin (slice_index tracks p.slot)) (pin_steps route)
  pub apart : (a b : ℕ) → a < length (slots route) → b < length (slots route)
      → (slot_at (slots route) a).net ≢ (slot_at (slots route) b).net
      → (slot_at (slots route) a).cell ≡ (slot_at (slots route) b).cell
      → slice_index tracks a ≢ slice_index tracks b

-- legal with subset switch blocks and connection boxes that open each track
abbrev pub IsLegalSubset : ℕ → RouteText → List ℕ → Type 0
IsLegalSubset width route tracks =
    IsLegal (AreJoined subset_track route.grid) (λ _ _. ⊤) width route tracks

-- legal with the switch blocks and the connection boxes of an architecture
abbrev pub IsLegalFor : Arch → ℕ → RouteText → List ℕ → Type 0
IsLegalFor arch width route tracks =
    IsLegal (AreJoined (mapped_track arch.pattern width) route.grid) (Opens arch width)
    width route tracks

-- the channel line with its slot's track, and any other line as it is
abbrev pub with_track : List Slot → List ℕ → ℕ → Elem → Elem
with_track all tracks net e =
    option_map_or (λ slot. record e { number = slice_index tracks (slot_number all slot) })
    (elem_slot net e) e

-- the route, in which each channel line has the track of its net's slot for that cell
abbrev pub route_of : RouteText → List ℕ → RouteText
route_of route tracks = let all = slots route in
    record route {
      nets = map (λ n. let net : RouteNet = n.1 in record net
          { elems = map (with_track all tracks n.0) net.elems }) (numbered_nets route);
    }

-- the line is a channel line of the slot
abbrev pub is_of_slot : Slot → Elem → Bool
is_of_slot slot e = option_map_or (same_slot slot) (elem_slot slot.net e) false

-- the number on the slot's first line in the route
abbrev pub track_in : RouteText → Slot → ℕ
track_in route slot =
    option_map_or (λ (e : Elem). e.number)
    (option_and_then (λ (net : RouteNet). find (is_of_slot slot) net.elems)
    (slice_get route.nets slot.net)) 0

-- for each slot the track on its first line in another route text
abbrev pub tracks_of : RouteText → RouteText → List ℕ
tracks_of route other = map (track_in other) (slots route)
