-- What is known of a problem before the work of a job.
use Rattle.std.specs.Prelude.{◌≡◌, ℕ, Bool, true, List, [], IsSomeAnd, None, Option, Some}
use Rattle.problem_facts.specs.Facts.{AreFactsOf, FactsState}
use Rattle.run_clauses.specs.Method.{goes_by_crowd}
use Rattle.run_outcome.specs.Subject.{Method, RoutingProblem}

-- the crowd that is known, without a tree where nothing is known
abbrev pub crowd_of : Option FactsState → List ℕ
crowd_of None = []
crowd_of (Some facts) = facts.crowd

-- where a crowd is gone by, the facts of the problem are known
abbrev pub IsKnown : Method → (count : Bool) → RoutingProblem → Option FactsState → Type 0
IsKnown method count p known = goes_by_crowd method count ≡ true → IsSomeAnd known (AreFactsOf p)
