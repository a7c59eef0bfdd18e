-- What a search is to contracts, and which formula and log it stands for.
use Rattle.std.specs.Prelude.{◌≡◌, ℕ, suc, ◌+◌, ◌<◌, ◌≤◌, ℤ, pos, false, ⊤, List, [], ◌∷◌, length, take, fold, All, None}
use Rattle.sat_clause.specs.Formula.{Cnf}
use Rattle.sat_clause.specs.Judge.{after, fault, inputs, is_empty_clause}
use Rattle.sat_clause.specs.Learned.{AreAddedFrom, EachErased, LearnedNew, added_count}
use Rattle.sat_clause.specs.Live.{Live}
use Rattle.sat_clause.specs.Step.{Step}
use Rattle.sat_core.specs.Kept.{AreKept}
use Rattle.sat_core.specs.Levels.{Assigned}

-- the number of variables, of input clauses, and of clauses that the log has added; the kept
-- clauses with their ids; and the trail, the newest entry first
pub record SearchValue : Type 0 where
  pub vars : ℕ
  pub inputs : ℕ
  pub added : ℕ
  pub clauses : Live
  pub trail : List Assigned

-- the clauses that are live after the steps
abbrev pub live_after : Cnf → List Step → Live
live_after formula log = fold after (inputs formula) log

-- the id of the next added clause
abbrev pub next_id : Cnf → List Step → ℕ
next_id formula log = suc (length formula.clauses + added_count log)

-- the search is one through the formula after these steps, by its numbers and its clauses
pub record StandsFor (search : SearchValue) (formula : Cnf) (log : List Step) : Type 0 where
  pub vars : search.vars ≡ formula.vars
  pub inputs : search.inputs ≡ length formula.clauses
  pub added : search.added ≡ added_count log
  pub clauses : AreKept search.clauses (live_after formula log)

-- a search at a step of a log: how many of its steps are taken, and what the search is then
pub record SearchAt : Type 0 where
  pub taken : ℕ
  pub value : SearchValue

-- behind all steps of the log
abbrev pub at_end : SearchValue → List Step → SearchAt
at_end value log = record { taken = length log; value = value }

-- the search stands for the formula and the steps of the log that are taken
pub record StandsAt (search : SearchAt) (formula : Cnf) (log : List Step) : Type 0 where
  pub reached : search.taken ≤ length log
  pub stands : StandsFor search.value formula (take search.taken log)

-- no step is refused, where these clauses are live at the start
abbrev pub AreGood : Live → List Step → Type 0
AreGood live [] = ⊤
AreGood live (step ∷ steps) = (fault live step ≡ None) × AreGood (after live step) steps

-- the number is an id above this one
abbrev pub IsAbove : ℕ → ℤ → Type 0
IsAbove m h = (n : ℕ) × (h ≡ pos n) × (m < n)

-- no deletion names one of so many input clauses
abbrev pub SparesInputs : ℕ → List Step → Type 0
SparesInputs m log = EachErased (λ before ids. All (IsAbove m) ids) log

-- no step is refused, none adds the empty clause, and each added clause is new and has the next id;
-- and no deletion names an input, so that what satisfies the live clauses satisfies the formula
pub record IsOpenLog (formula : Cnf) (log : List Step) : Type 0 where
  pub good : AreGood (inputs formula) log
  pub none_empty : All (λ step. is_empty_clause step ≡ false) log
  pub numbered : AreAddedFrom (suc (length formula.clauses)) log
  pub new : LearnedNew formula log
  pub spares : SparesInputs (length formula.clauses) log
