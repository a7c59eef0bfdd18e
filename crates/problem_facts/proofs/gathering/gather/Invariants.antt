-- what is taken and what is left make the crowd
use Rattle.std.proofs.Common.{◌≡◌, length}
use Rattle.problem_facts.specs.Gathering.{AreGathered}
use Rattle.problem_facts.specs.Trees.{meet}
use Rattle.problem_facts.proofs.gathering.gather.Given as goal

abbrev pub invariant-loop-rest : goal.invariant-loop-rest
invariant-loop-rest l = record {
  gathered : AreGathered (meet l.trees.grid l.trees.slots.now l.trees.roots.now)
      l.trees.roots.now l.initial.rest.items l.taken.items l.rest.items;
  held : length l.held ≡ length l.initial.held;
  marked : length l.marked ≡ length l.initial.marked;
}

abbrev pub decreases-loop-rest : goal.decreases-loop-rest
decreases-loop-rest l = length l.rest.items
