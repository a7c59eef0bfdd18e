-- What is known of a problem gives a job the crowd that it goes by.
use Rattle.std.specs.Prelude.{Bool, IsSome, None, Option, Some}
use Rattle.std.proofs.Common.{◌≡◌, true, refl, ap}
use Rattle.problem_facts.specs.Facts.{FactsState}
use Rattle.run_clauses.specs.Known.{IsKnown, crowd_of}
use Rattle.run_clauses.specs.Method.{IsCrowdFor, goes_by_crowd}
use Rattle.run_outcome.specs.Subject.{Method, Ordered, Pinned, RoutingProblem, Strictly, Within}

-- a method that keeps tracks in order goes by a crowd, and so does one that counts
pub order-goes : (method : Method) (count : Bool) → method ≡ Ordered
    → goes_by_crowd method count ≡ true
order-goes method count is = ap (λ (m : Method). goes_by_crowd m count) is

pub count-goes : (method : Method) (count : Bool) → count ≡ true
    → goes_by_crowd method count ≡ true
count-goes Strictly count counts = counts
count-goes Pinned count counts = counts
count-goes (Within reach) count counts = counts
count-goes Ordered count counts = refl

module _ (method : Method) (count : Bool) (p : RoutingProblem) where
  -- the facts are there
  pub known-some : (known : Option FactsState) → IsKnown method count p known
      → goes_by_crowd method count ≡ true → IsSome known
  known-some None h goes = absurd (h goes)
  known-some (Some facts) h goes = refl

  -- and their crowd is one of the problem
  pub known-crowd : (known : Option FactsState) → IsKnown method count p known
      → IsCrowdFor method count (crowd_of known) p
  known-crowd None h = λ goes. absurd (h goes)
  known-crowd (Some facts) h = λ goes. (h goes).crowd
