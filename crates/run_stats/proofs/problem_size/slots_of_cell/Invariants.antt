use Rattle.std.proofs.Common.{◌≡◌, ◌≤◌, length, take}
use Rattle.run_stats.specs.Sizes.{slots_of_cell}
use Rattle.run_stats.proofs.problem_size.slots_of_cell.Given as goal

-- the slots of the cell so far
abbrev pub invariant-loop-slot : goal.invariant-loop-slot
invariant-loop-slot l = record {
  many : l.count ≡ length (slots_of_cell l.grid l.number (take l.slot-index l.slots));
  few : l.count ≤ l.slot-index;
}
