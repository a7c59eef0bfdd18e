-- A formula and a log, whose clauses are found by their ids: what contracts see, and how the steps
-- that add clauses are listed.
use Rattle.std.specs.Prelude.{◌≡◌, ◌≢◌, ℕ, suc, ◌<◌, ◌≤◌, List, [], ◌∷◌, length, All, AllPairs, slice_index_or, ⊤}
use Rattle.sat_clause.specs.declared.limits.TheConstants.{LITERAL_LIMIT}
use Rattle.sat_clause.specs.Formula.{Cnf}
use Rattle.sat_clause.specs.Literal.{IsWithin}
use Rattle.sat_clause.specs.Step.{Step, Added, Erased}
use Rattle.route_core.specs.Trimmed.{AddedRise}
use Rattle.route_core.specs.declared.sources.AddedStep.{AddedStep}

-- the formula, the steps, and a number that no variable of theirs is above
pub record SourceState : Type 0 where
  pub formula : Cnf
  pub log : List Step
  pub size : ℕ

-- of steps of which the first stands at this place, those that add a clause
abbrev pub added_from : ℕ → List Step → List AddedStep
added_from k [] = []
added_from k (Added id clause hints ∷ steps) =
    record { id = id; place = k } ∷ added_from (suc k) steps
added_from k (Erased id ids ∷ steps) = added_from (suc k) steps

-- their ids rise
abbrev pub IdsRise : List AddedStep → Type 0
IdsRise added = AllPairs (λ first later. first.id < later.id) added

-- the one with this number adds a clause under the id
abbrev pub HasId : List AddedStep → (id number : ℕ) → Type 0
HasId added id number =
    (number < length added) × ((d : AddedStep) → (slice_index_or added number d).id ≡ id)

-- none of them adds a clause under the id
abbrev pub NoneHasId : List AddedStep → (id : ℕ) → Type 0
NoneHasId added id = (number : ℕ) (d : AddedStep) → number < length added
    → (slice_index_or added number d).id ≢ id

-- the literals of a clause that the step adds are of the variables up to this number
abbrev pub StepWithin : ℕ → Step → Type 0
StepWithin n (Added id clause hints) = All (IsWithin n) clause
StepWithin n (Erased id ids) = ⊤

-- these are the steps that add a clause, their ids rise from above the inputs, and no variable is
-- above the size
pub record IsSourceStore (formula : Cnf) (log : List Step) (added : List AddedStep) (size : ℕ)
    : Type 0 where
  pub listed : added ≡ added_from 0 log
  pub rise : AddedRise (length formula.clauses) log
  pub inputs_within : All (All (IsWithin size)) formula.clauses
  pub added_within : All (StepWithin size) log
  pub few : size ≤ LITERAL_LIMIT
