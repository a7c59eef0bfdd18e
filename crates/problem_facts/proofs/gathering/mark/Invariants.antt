-- the trees of the slots so far are marked
use Rattle.std.proofs.Common.{◌≡◌, length, take}
use Rattle.problem_facts.specs.Gathering.{AreMarked}
use Rattle.problem_facts.proofs.gathering.mark.Given as goal

abbrev pub invariant-loop-s : goal.invariant-loop-s
invariant-loop-s l = record {
  size : length l.marked ≡ length l.initial.marked;
  marked : AreMarked l.trees.grid l.trees.slots.now l.trees.roots.now l.held
      (take l.s-index l.rest) l.marked;
}
