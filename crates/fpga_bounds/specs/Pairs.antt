-- Slots that stand once each, and how many of them take a cell.
use Rattle.std.specs.Prelude.{◌≡◌, ℕ, false, List, AllPairs, Some, count_by, unwrap_or}
use Rattle.std.specs.BTreeMap.{BTreeMap, Updates, get}
use Rattle.fpga_types.specs.Fabric.{same_cell}
use Rattle.fpga_types.specs.Slots.{same_slot}
use Rattle.fpga_types.specs.declared.grid.Cell.{Cell}
use Rattle.fpga_types.specs.contracts.grid.CellOrd.TheImpl.{cmp-value}
use Rattle.fpga_types.specs.declared.problem.Slot.{Slot}

-- no slot stands twice
abbrev pub AreDistinct : List Slot → Type 0
AreDistinct all = AllPairs (λ a b. same_slot a b ≡ false) all

-- how many of the slots take this cell
abbrev pub crowd_in : List Slot → Cell → ℕ
crowd_in all cell = count_by (λ (slot : Slot). same_cell slot.cell cell) all

-- how many slots were counted in a cell
abbrev pub crowd_of : BTreeMap Cell ℕ → Cell → ℕ
crowd_of crowds cell = unwrap_or (get cmp-value.it crowds cell) 0

-- so many slots are counted in the cell, and in the others as many as before
abbrev pub HasCrowd : BTreeMap Cell ℕ → Cell → ℕ → BTreeMap Cell ℕ → Type 0
HasCrowd before cell crowd after = Updates cmp-value.it before after cell (Some crowd)
