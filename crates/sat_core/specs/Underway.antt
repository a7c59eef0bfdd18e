-- One turn of a search, the log of one that is under way, and what the whole search comes to.
use Rattle.std.specs.Prelude.{◌≡◌, ◌≢◌, ℕ, suc, ◌≤◌, ℤ, Bool, List, [], ◌∷◌, ◌++◌, length, drop, IfOk, IsTrue, None, Result}
use Rattle.std.specs.declared.alloc.AllocError.{AllocError}
use Rattle.sat_clause.specs.declared.limits.TheConstants.{ID_LIMIT}
use Rattle.sat_clause.specs.Formula.{Cnf, Satisfies}
use Rattle.sat_clause.specs.Judge.{Accepts, IsGoodSoFar}
use Rattle.sat_clause.specs.Learned.{IsRelevant, Relevant, Sparse, added_count, deletions}
use Rattle.sat_clause.specs.Literal.{Clause}
use Rattle.sat_clause.specs.Rup.{rup}
use Rattle.sat_clause.specs.Step.{Step, Added}
use Rattle.sat_core.specs.Answer.{IsAnswer}
use Rattle.sat_core.specs.SearchLog.{AreNumbered, DeletesSome, IsSearchLog}
use Rattle.sat_core.specs.Stands.{IsOpenLog, SearchAt, StandsAt, live_after, next_id}
use Rattle.sat_core.specs.declared.answer.Answer.{Answer}
use Rattle.sat_core.specs.declared.turn.Turn.{Turn}
use Rattle.sat_core.specs.declared.turn.Turn.TheVariants.{Learned, Model, Refuted}

-- the search stands for the formula and the first steps of the log, and the steps behind these
-- delete nothing
pub record MayFollow (search : SearchAt) (formula : Cnf) (log : List Step) : Type 0 where
  pub stands : StandsAt search formula log
  pub none_deleted : deletions (drop search.taken log) ≡ 0

-- what a turn asks for: that, an open log, and a next id
pub record MayTurn (search : SearchAt) (formula : Cnf) (log : List Step) : Type 0 where
  pub follows : MayFollow search formula log
  pub open_log : IsOpenLog formula log
  pub few : next_id formula log ≤ ID_LIMIT

-- there is one more step, which adds this clause under the next id; it follows by its hints, and
-- each of them is needed
pub record AddsRelevant (formula : Cnf) (before now : List Step) (clause : Clause) : Type 0 where
  pub hints : List ℤ
  pub step : now ≡ before ++ Added (next_id formula before) clause hints ∷ []
  pub good : rup (live_after formula before) clause hints ≡ None
  pub relevant : IsRelevant (live_after formula before) clause hints

-- one more clause is learned, which is not empty: the log stays open, all its steps are taken, and
-- each other search that could take a turn can take one behind it, while there is a next id
pub record HasLearned (search : SearchAt) (formula : Cnf) (before now : List Step) : Type 0 where
  pub clause : Clause
  pub some : clause ≢ []
  pub adds : AddsRelevant formula before now clause
  pub good : IsGoodSoFar formula now
  pub open_log : IsOpenLog formula now
  pub follows : MayFollow search formula now
  pub all_taken : search.taken ≡ length now
  pub others : (other : SearchAt) → MayFollow other formula before → MayFollow other formula now

-- the values satisfy the formula, and the log, of which all steps are taken, is as it was
pub record HasModel
    (search : SearchAt) (formula : Cnf) (before now : List Step) (values : List Bool) : Type 0
  where
    pub satisfies : Satisfies values formula
    pub same : now ≡ before
    pub follows : MayFollow search formula now
    pub all_taken : search.taken ≡ length now

-- the empty clause is added, so that the log refutes the formula
pub record HasRefuted (formula : Cnf) (before now : List Step) : Type 0 where
  pub adds : AddsRelevant formula before now []
  pub accepts : Accepts formula now

-- what a turn says: one more clause is learned, or values satisfy the formula, or it is refuted
abbrev pub IsTurn : SearchAt → Cnf → (before now : List Step) → Turn → Type 0
IsTurn search formula before now Learned = HasLearned search formula before now
IsTurn search formula before now (Model values) =
    HasModel search formula before now values.items
IsTurn search formula before now Refuted = HasRefuted formula before now

-- a search that has taken all steps of its own log, which deletes seldom and
-- never nothing
pub record IsUnderway (search : SearchAt) (formula : Cnf) (log : List Step) : Type 0 where
  pub stands : StandsAt search formula log
  pub all_taken : search.taken ≡ length log
  pub open_log : IsOpenLog formula log
  pub numbered : AreNumbered (suc (length formula.clauses)) log
  pub relevant : Relevant formula log
  pub sparse : Sparse log
  pub deletes : DeletesSome log

-- what a search comes to, and what its log is whatever that is
pub record HasSearched
    (formula : Cnf) (budget : ℕ) (keep : Bool) (log : List Step)
    (result : Result Answer AllocError)
    : Type 0 where
  pub answer : IfOk result (IsAnswer formula budget log)
  pub logged : IsSearchLog formula log
  pub within : added_count log ≤ budget
  pub kept : IsTrue keep → deletions log ≡ 0
