-- the slots so far are counted
use Rattle.std.proofs.Common.{◌≡◌, length}
use Rattle.problem_facts.specs.CellCounts.{AreCounted}
use Rattle.problem_facts.proofs.fullest.count_slots.Given as goal

abbrev pub invariant-loop-slot : goal.invariant-loop-slot
invariant-loop-slot l = record {
  size : length l.counts ≡ length l.initial.counts;
  counted : AreCounted l.grid l.slots l.slot-index l.counts;
}
