-- A table of slots: in the order in which they came, and by what each is found.
use Rattle.std.specs.Prelude.{◌≡◌, ℕ, ◌≤◌, List, [], ◌∷◌, ◌++◌, length, if◌then◌else◌}
use Rattle.std.specs.declared.cmp.Ordering.{Ordering}
use Rattle.std.specs.declared.cmp.Reverse.{Reverse}
use Rattle.std.specs.BTreeMap.{BTreeMap, get}
use Rattle.std.specs.List.{list_any, position_from}
use Rattle.fpga_types.specs.Slots.{same_slot}
use Rattle.fpga_types.specs.declared.limits.TheConstants.{SLOT_LIMIT}
use Rattle.fpga_types.specs.declared.problem.Slot.{Slot}
use Rattle.fpga_types.specs.contracts.problem.SlotOrd.TheImpl as slot_ord
use Rattle.fpga_bounds.specs.Pairs.{AreDistinct}

-- the order of slots
abbrev pub slot_cmp : Slot → Slot → Ordering
slot_cmp = (slot_ord.ghosts).cmp

-- the order of keys: the slots of the last net come first
abbrev pub newest_first : Reverse Slot → Reverse Slot → Ordering
newest_first a b = slot_cmp b.0 a.0

-- each slot stands once and is found at the number of its place, no other is found, and there are
-- at most 200,000
pub record IsNumbered (all : List Slot) (numbers : BTreeMap (Reverse Slot) ℕ) : Type 0 where
  pub found : (key : Reverse Slot)
      → get newest_first numbers key ≡ position_from (same_slot key.0) 0 all
  pub once : AreDistinct all
  pub limit : length all ≤ SLOT_LIMIT

-- the slots with this one at their end, unless it is one of them
abbrev pub with_slot : List Slot → Slot → List Slot
with_slot all slot = if list_any (same_slot slot) all then all else all ++ slot ∷ []
