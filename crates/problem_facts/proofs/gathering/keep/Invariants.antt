-- the slots so far that stay stand in front
use Rattle.std.proofs.lemmas.List.Filters.{FiltersInPlace}
use Rattle.problem_facts.specs.Gathering.{is_kept}
use Rattle.problem_facts.proofs.gathering.keep.Given as goal

abbrev pub invariant-loop-i : goal.invariant-loop-i
invariant-loop-i l =
    FiltersInPlace (is_kept l.trees.slots.now l.trees.roots.now l.marked l.net)
    l.initial.rest.items l.rest.items l.kept l.i
