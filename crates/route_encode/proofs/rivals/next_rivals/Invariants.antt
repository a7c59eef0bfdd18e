-- the slots from s on have their next rivals, and the map has the first of these slots in each cell
use Rattle.std.proofs.Common.{◌≡◌, ◌≤◌, ◌<◌, ℕ, length, None}
use Rattle.std.specs.BTreeMap.{get}
use Rattle.std.specs.Prelude.{find, slice_index_or}
use Rattle.fpga_types.specs.Fabric.{same_cell}
use Rattle.fpga_types.specs.Slots.{slot_at}
use Rattle.fpga_types.specs.declared.grid.Cell.{Cell}
use Rattle.fpga_types.specs.contracts.grid.CellOrd.TheImpl.{cmp-value}
use Rattle.route_encode.specs.Rivals.{next_rival, slots_from}
use Rattle.route_encode.proofs.rivals.next_rivals.Given as goal

abbrev pub invariant-loop-s : goal.invariant-loop-s
invariant-loop-s l = record {
  each : length l.next.items ≡ length l.slots;
  next : (k : ℕ) → l.s ≤ k → k < length l.slots → slice_index_or l.next.items k None
      ≡ next_rival l.slots k;
  first : (c : Cell) → get cmp-value.it l.first c ≡ find (λ b. same_cell (slot_at l.slots b).cell c)
      (slots_from l.slots l.s);
}
