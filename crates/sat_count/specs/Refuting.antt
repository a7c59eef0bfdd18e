-- A refutation that is being written: what contracts see, and what its steps have made live.
use Rattle.std.specs.Prelude.{◌≡◌, ℕ, suc, ◌+◌, ◌-◌, ◌≤◌, ◌<◌, ℤ, pos, List, length, map, ◌++◌, [], ◌∷◌, All, IsSome, Some}
use Rattle.std.specs.List.{range_with_len}
use Rattle.sat_clause.specs.Formula.{Cnf}
use Rattle.sat_clause.specs.Judge.{live_behind}
use Rattle.sat_clause.specs.Literal.{Clause, IsWithin}
use Rattle.sat_clause.specs.Live.{Live, named}
use Rattle.sat_clause.specs.Step.{Added, Erased, HaveLiterals, Step}
use Rattle.sat_clause.specs.declared.limits.TheConstants.{LITERAL_LIMIT}
use Rattle.sat_rat.specs.FullJudge.{full_judge, full_judge_from}
use Rattle.sat_count.specs.Names.{no, yes}

-- the formula, the steps, and the last id and the last variable that stand in them
pub record RefutationState : Type 0 where
  pub cnf : Cnf
  pub steps : List Step
  pub last_id : ℕ
  pub last_variable : ℕ

-- no step behind the clauses of a formula
abbrev pub begun : Cnf → RefutationState
begun cnf = record {
  cnf = cnf;
  steps = [];
  last_id = length cnf.clauses;
  last_variable = cnf.vars;
}

-- a step more
abbrev pub stepped : RefutationState → Step → (last_id : ℕ) → RefutationState
stepped r step last_id = record {
  cnf = r.cnf;
  steps = r.steps ++ step ∷ [];
  last_id = last_id;
  last_variable = r.last_variable;
}

-- a clause more, under the next id
abbrev pub added : RefutationState → Clause → (hints : List ℤ) → RefutationState
added r clause hints = stepped r (Added (suc r.last_id) clause hints) (suc r.last_id)

-- a variable more
abbrev pub widened : RefutationState → RefutationState
widened r = record {
  cnf = r.cnf;
  steps = r.steps;
  last_id = r.last_id;
  last_variable = suc r.last_variable;
}

-- so many ids behind one
abbrev pub ids_behind : (behind count : ℕ) → List ℤ
ids_behind behind count = map (λ id. pos (suc id)) (range_with_len behind count)

-- the clauses with the ids behind one and up to another are deleted
abbrev pub erased : RefutationState → (behind last : ℕ) → RefutationState
erased r behind last = stepped r (Erased r.last_id (ids_behind behind (last - behind))) r.last_id

-- the clauses that are live behind the steps
unfoldable pub live_of : RefutationState → Live
live_of r = live_behind r.cnf r.steps

-- the clause is live under the id
pub record Holds (r : RefutationState) (id : ℕ) (clause : Clause) : Type 0 where
  pub there : named (live_of r) (pos id) ≡ Some clause

-- some clause is live under each id behind the first and up to the last
pub record AreLive (r : RefutationState) (behind last : ℕ) : Type 0 where
  pub each : (id : ℕ) → behind < id → id ≤ last → IsSome (named (live_of r) (pos id))

-- the steps are good and none adds the empty clause, so that whatever comes behind them is judged
-- from the clauses on that are live behind them; those are of the variables up to the last one, and
-- have ids up to the last one
pub record IsRefutation (r : RefutationState) : Type 0 where
  pub ahead : (more : List Step) → full_judge r.cnf (r.steps ++ more)
      ≡ full_judge_from (suc (length r.steps)) (live_of r) more
  pub literals : HaveLiterals r.steps
  pub within : All (λ entry. All (IsWithin r.last_variable) entry.1) (live_of r)
  pub low : (id : ℕ) (clause : Clause) → Holds r id clause → id ≤ r.last_id
  pub few : r.last_variable ≤ LITERAL_LIMIT

-- more was added to the first: what was live is live, and so is all that was added
pub record Grows (old new : RefutationState) : Type 0 where
  pub cnf : new.cnf ≡ old.cnf
  pub ids : old.last_id ≤ new.last_id
  pub variables : old.last_variable ≤ new.last_variable
  pub kept : (id : ℕ) (clause : Clause) → Holds old id clause → Holds new id clause
  pub added : AreLive new old.last_id new.last_id

-- one clause more is live, under the next id
pub record Adds (old new : RefutationState) (clause : Clause) : Type 0 where
  pub last : new.last_id ≡ suc old.last_id
  pub variables : new.last_variable ≡ old.last_variable
  pub holds : Holds new (suc old.last_id) clause
  pub grows : Grows old new

-- the four clauses behind this id say that a variable is true exactly where one is, or two others
-- are both
pub record IsMeaning (r : RefutationState) (behind name kept moved given : ℕ) : Type 0 where
  pub by_kept : Holds r (behind + 1) (yes name ∷ no kept ∷ [])
  pub by_moved : Holds r (behind + 2) (yes name ∷ no moved ∷ no given ∷ [])
  pub or_moved : Holds r (behind + 3) (no name ∷ yes kept ∷ yes moved ∷ [])
  pub or_given : Holds r (behind + 4) (no name ∷ yes kept ∷ yes given ∷ [])

-- a new variable is defined by four clauses
pub record Defines (old new : RefutationState) (kept moved given : ℕ) : Type 0 where
  pub last : new.last_id ≡ old.last_id + 4
  pub variables : new.last_variable ≡ suc old.last_variable
  pub meaning : IsMeaning new old.last_id old.last_variable kept moved given
  pub grows : Grows old new

-- the clauses up to an id are deleted, and those behind it stay
pub record Erases (old new : RefutationState) (last : ℕ) : Type 0 where
  pub cnf : new.cnf ≡ old.cnf
  pub last_id : new.last_id ≡ old.last_id
  pub variables : new.last_variable ≡ old.last_variable
  pub kept : (id : ℕ) (clause : Clause) → last < id → Holds old id clause → Holds new id clause
