-- the slots so far have the ones that stand for their trees
use Rattle.std.proofs.Common.{◌≡◌}
use Rattle.problem_facts.specs.Trees.{roots_of}
use Rattle.problem_facts.proofs.trees.roots_of.Given as goal

abbrev pub invariant-loop-s : goal.invariant-loop-s
invariant-loop-s l = l.roots.items ≡ roots_of l.steps l.s
