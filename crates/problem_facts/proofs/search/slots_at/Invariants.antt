-- what is found so far is below the count
use Rattle.std.proofs.Common.{◌<◌, All}
use Rattle.problem_facts.proofs.search.slots_at.Given as goal

abbrev pub invariant-loop-place : goal.invariant-loop-place
invariant-loop-place l = All (λ s. s < l.count) l.found.items
