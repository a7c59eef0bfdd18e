-- Sums that are told by 64 bits, and those of one step more.
use Rattle.std.proofs.Common.{◌≡◌, ◌∙◌, ℕ, ◌+◌, ◌-◌, List, [], ◌∷◌, Some, take, slice_get, ap, refl, arith}
use Rattle.std.specs.Prelude.{◌^◌, min}
use Rattle.std.specs.List.{sum_by}
use Rattle.std.proofs.lemmas.List.Sums.{sum_by-cons, sum_by_more}
use Rattle.std.proofs.lemmas.Option.{get_or_from_slice_get, slice_get_within}
use Rattle.sat_clause.specs.Learned.{added_count}
use Rattle.sat_clause.specs.Step.{Step, Added, Erased}
use Rattle.run_stats.specs.Sizes.{added_by, capped}

-- what is told of a sum stays so where some more is added to it
capped-more : (a b : ℕ) → min (capped a + b) (2 ^ 64 - 1) ≡ capped (a + b)
capped-more a b = omega arith

-- the same of a number that is told of a sum, and of one that is added
pub capped-next : (told added sum next : ℕ) → told ≡ capped sum → added ≡ next
    → min (told + added) (2 ^ 64 - 1) ≡ capped (sum + next)
capped-next told added sum next is same = rw (is, same) (capped-more sum next)

-- a sum over the steps up to and with this one
pub sum-next : (f : Step → ℕ) (steps : List Step) (at : ℕ) (step : Step)
    → slice_get steps at ≡ Some step
    → sum_by f (take (at + 1) steps) ≡ sum_by f (take at steps) + f step
sum-next f steps at step is =
    sum_by_more f steps at step (slice_get_within steps at step is)
    ∙ ap (λ (s : Step). sum_by f (take at steps) + f s)
    (get_or_from_slice_get steps at step step is)

-- the clauses that the steps add, one by one
pub added-sum : (steps : List Step) → sum_by added_by steps ≡ added_count steps
added-sum [] = refl
added-sum (Added id clause hints ∷ steps) =
    omega (arith, sum_by-cons added_by (Added id clause hints) steps, added-sum steps)
added-sum (Erased id ids ∷ steps) =
    omega (arith, sum_by-cons added_by (Erased id ids) steps, added-sum steps)
