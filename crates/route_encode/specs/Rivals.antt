-- The slots that take the cell of a slot.
use Rattle.std.specs.Prelude.{◌≡◌, ℕ, ◌+◌, ◌-◌, ◌<◌, ◌≤◌, Bool, List, length, filter, find, flat_map, Option, None, slice_index_or}
use Rattle.std.specs.List.{range_with_len}
use Rattle.fpga_types.specs.Fabric.{same_cell}
use Rattle.fpga_types.specs.Slots.{slot_at}
use Rattle.fpga_types.specs.declared.limits.TheConstants.{SLOT_LIMIT}
use Rattle.fpga_types.specs.declared.problem.Slot.{Slot}
use Rattle.sat_clause.specs.Literal.{Clause}
use Rattle.route_encode.specs.Encoding.{apart_track}

-- slots a and b take one cell
abbrev pub share_cell : List Slot → ℕ → ℕ → Bool
share_cell all a b = same_cell (slot_at all b).cell (slot_at all a).cell

-- the slot numbers from k on, rising
abbrev pub slots_from : List Slot → ℕ → List ℕ
slots_from all k = range_with_len k (length all - k)

-- the slots after slot a that take its cell, rising
abbrev pub rivals_after : List Slot → ℕ → List ℕ
rivals_after all a = filter (share_cell all a) (slots_from all (a + 1))

-- the first of them
abbrev pub next_rival : List Slot → ℕ → Option ℕ
next_rival all a = find (share_cell all a) (slots_from all (a + 1))

-- slot a does not have a track of a later slot that takes its cell
abbrev pub apart_from_rivals : ℕ → List Slot → ℕ → List Clause
apart_from_rivals width all a = flat_map (λ b. apart_track width (a, b)) (rivals_after all a)

-- of each slot the row has the next rival, and there are at most 200,000 slots
pub record AreNextRivals (all : List Slot) (row : List (Option ℕ)) : Type 0 where
  pub few : length all ≤ SLOT_LIMIT
  pub each : length row ≡ length all
  pub next : (s : ℕ) → s < length all → slice_index_or row s None ≡ next_rival all s
