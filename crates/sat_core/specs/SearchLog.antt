-- What a search leaves in its log.
use Rattle.std.specs.Prelude.{◌≡◌, ◌≢◌, ℕ, suc, ◌<◌, ◌≤◌, ℤ, pos, true, ⊤, List, [], ◌∷◌, length, slice_get, All, Some}
use Rattle.sat_clause.specs.Formula.{Cnf}
use Rattle.sat_clause.specs.Judge.{IsGoodSoFar, is_empty_clause}
use Rattle.sat_clause.specs.Learned.{EachErased, LearnedNew, Relevant, Sparse}
use Rattle.sat_clause.specs.Literal.{Clause}
use Rattle.sat_clause.specs.Step.{Step, Added, Erased}

-- the added clauses have the ids from this one on, and a deletion's own number is an id before the
-- next one
abbrev pub AreNumbered : ℕ → List Step → Type 0
AreNumbered id [] = ⊤
AreNumbered id (Added new clause hints ∷ steps) = (new ≡ id) × AreNumbered (suc id) steps
AreNumbered id (Erased own ids ∷ steps) = (1 ≤ own) × (own < id) × AreNumbered id steps

-- no step but the last adds the empty clause
abbrev pub EndsAtEmpty : List Step → Type 0
EndsAtEmpty [] = ⊤
EndsAtEmpty (step ∷ steps) = (is_empty_clause step ≡ true → steps ≡ []) × EndsAtEmpty steps

-- the hint is an id below this one
pub record IsEarlier (id : ℕ) (hint : ℤ) : Type 0 where
  pub number : ℕ
  pub is : hint ≡ pos number
  pub some : 1 ≤ number
  pub before : number < id

-- the hints of an added clause are ids of input clauses and of clauses that were added before it
abbrev pub HintsAreEarlier : List Step → Type 0
HintsAreEarlier log = (k id : ℕ) (clause : Clause) (hints : List ℤ) →
    slice_get log k ≡ Some (Added id clause hints) → All (IsEarlier id) hints

-- each deletion names a clause
abbrev pub DeletesSome : List Step → Type 0
DeletesSome log = EachErased (λ before ids. ids ≢ []) log

-- no step is refused, and an empty clause ends the log; the added clauses are numbered behind the
-- inputs and follow from earlier ones by hints that they need, each of them is new; few steps
-- delete clauses, and each of these deletes some
pub record IsSearchLog (formula : Cnf) (log : List Step) : Type 0 where
  pub good : IsGoodSoFar formula log
  pub ends : EndsAtEmpty log
  pub numbered : AreNumbered (suc (length formula.clauses)) log
  pub earlier : HintsAreEarlier log
  pub new : LearnedNew formula log
  pub relevant : Relevant formula log
  pub sparse : Sparse log
  pub deletes : DeletesSome log
