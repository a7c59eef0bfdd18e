-- the pairs of the slots so far are counted, and the map has how many of them take each cell
use Rattle.std.proofs.Common.{◌≡◌, ◌≤◌, ◌*◌, length, take}
use Rattle.fpga_types.specs.Slots.{pairs}
use Rattle.fpga_types.specs.declared.grid.Cell.{Cell}
use Rattle.fpga_bounds.specs.Pairs.{crowd_in, crowd_of}
use Rattle.fpga_bounds.proofs.pairs.pair_count.Given as goal

abbrev pub invariant-loop-slot : goal.invariant-loop-slot
invariant-loop-slot l = record {
  counted : l.count ≡ length (pairs (take l.slot-index l.slots));
  limit : l.count ≤ l.slot-index * 200000;
  crowds : (c : Cell) → crowd_of l.crowds c
      ≡ crowd_in (take l.slot-index l.slots) c;
}
