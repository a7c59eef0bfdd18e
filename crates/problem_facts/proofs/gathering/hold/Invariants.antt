-- the cells of the slots so far are held
use Rattle.std.proofs.Common.{◌≡◌, length, take}
use Rattle.problem_facts.specs.Gathering.{AreHeld}
use Rattle.problem_facts.proofs.gathering.hold.Given as goal

abbrev pub invariant-loop-s : goal.invariant-loop-s
invariant-loop-s l = record {
  size : length l.held ≡ length l.initial.held;
  held : AreHeld l.trees.grid l.trees.slots.now l.trees.roots.now l.tree
      (take l.s-index l.rest) l.held;
}
