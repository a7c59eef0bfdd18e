-- What the answers of a search mean.
use Rattle.std.specs.Prelude.{◌≡◌, ℕ, ◌+◌, ◌*◌, ◌/◌, ◌^◌, ◌≤◌, ℤ, Bool, true, false, ⊤, List, [], ◌∷◌, ◌++◌, All}
use Rattle.sat_clause.specs.Formula.{Cnf, Satisfies}
use Rattle.sat_clause.specs.Judge.{Accepts, is_empty_clause}
use Rattle.sat_clause.specs.Learned.{added_count}
use Rattle.sat_clause.specs.Step.{Step, Added}
use Rattle.sat_core.specs.declared.answer.Answer.{Answer}
use Rattle.sat_core.specs.declared.answer.Answer.TheVariants.{Model, Refuted, Spent, Stopped}

-- the last step adds the empty clause
pub record EndsEmpty (log : List Step) : Type 0 where
  pub before : List Step
  pub id : ℕ
  pub hints : List ℤ
  pub is : log ≡ before ++ Added id [] hints ∷ []

-- the log refutes the formula; it adds at most so many clauses, the last of which is empty
pub record IsRefutation (formula : Cnf) (budget : ℕ) (log : List Step) : Type 0 where
  pub accepts : Accepts formula log
  pub within : added_count log ≤ budget
  pub last : EndsEmpty log

-- the log adds exactly so many clauses, none of which is empty
pub record SpendsAll (budget : ℕ) (log : List Step) : Type 0 where
  pub all : added_count log ≡ budget
  pub none_empty : All (λ step. is_empty_clause step ≡ false) log

-- the log adds at most so many clauses, none of which is empty
pub record LeavesOpen (budget : ℕ) (log : List Step) : Type 0 where
  pub within : added_count log ≤ budget
  pub none_empty : All (λ step. is_empty_clause step ≡ false) log

-- what an answer says of the formula and of the log
abbrev pub IsAnswer : Cnf → ℕ → List Step → Answer → Type 0
IsAnswer formula budget log (Model values) = Satisfies values.items formula
IsAnswer formula budget log Refuted = IsRefutation formula budget log
IsAnswer formula budget log Spent = SpendsAll budget log
IsAnswer formula budget log Stopped = LeavesOpen budget log

-- more clauses than a search through so many variables adds, none of them empty: where it keeps all
-- of them, each is another of the 3^v sets of literals without a variable twice; and between two
-- deletions they are, of which the k-th waits for 1000 k of them
abbrev pub most_added : Bool → ℕ → ℕ
most_added true v = 3 ^ v
most_added false v = 3 ^ v * (3 ^ v / 1000 + 1)

-- there are values, or there are none
abbrev pub IsDecided : Answer → Type 0
IsDecided (Model values) = ⊤
IsDecided Refuted = ⊤
IsDecided Spent = ⊥
IsDecided Stopped = ⊥
