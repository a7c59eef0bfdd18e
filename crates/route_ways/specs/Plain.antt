-- What a search within a budget needs, and the logs by which it refutes a formula and by which it
-- leaves it open.
use Rattle.std.specs.Prelude.{◌≡◌, ◌≢◌, ◌⊎◌, ◌<◌, ◌≤◌, ⊤, ℕ, List, [], length, IsTrue}
use Rattle.desk_io.specs.Files.{Bytes}
use Rattle.sat_clause.specs.Formula.{Cnf}
use Rattle.sat_clause.specs.Learned.{added_count, deletions}
use Rattle.sat_clause.specs.Step.{Step}
use Rattle.sat_core.specs.Answer.{IsAnswer, IsDecided, IsRefutation, LeavesOpen, SpendsAll, most_added}
use Rattle.sat_core.specs.SearchLog.{IsSearchLog}
use Rattle.sat_core.specs.declared.answer.Answer.{Answer}
use Rattle.sat_core.specs.declared.answer.Answer.TheVariants.{Stopped}
use Rattle.sat_text.specs.LratText.{ReadsLrat}
use Rattle.sat_text.specs.Printed.{log_text}
use Rattle.sat_text.specs.ReadBack.{IsPrintableLog}
use Rattle.sat_turns.specs.Schedule.{IsSchedule}
use Rattle.sat_turns.specs.declared.schedule.Schedule.TheVariants.{Drawn}
use Rattle.route_ways.specs.declared.plain.Plain.{Plain}
use Rattle.route_ways.specs.declared.plain.Solver.{Solver}
use Rattle.route_ways.specs.declared.plain.Solver.TheVariants.{Merging, Turns}
use Rattle.route_ways.specs.declared.plain.TheConstants.{BUDGET_LIMIT}

-- how many copies of the clauses are held: each search has one
abbrev pub copies_of : Solver → ℕ
copies_of Merging = 1
copies_of (Turns members seed) = members

-- those that take turns are few enough, and the seed goes with them
abbrev pub CanTurn : Solver → Type 0
CanTurn Merging = ⊤
CanTurn (Turns members seed) = IsSchedule (Drawn members seed)

-- so, and the budget is in its range
pub record CanSearch (way : Plain) : Type 0 where
  pub some : 1 ≤ way.budget
  pub affordable : way.budget ≤ BUDGET_LIMIT
  pub turns : CanTurn way.solver

-- the search has come to this answer with this log, within the budget; where that is large enough,
-- the answer is decided unless the caller stopped the search
pub record HasSearched (way : Plain) (formula : Cnf) (log : List Step) (answer : Answer) : Type 0
  where
    pub logged : IsSearchLog formula log
    pub kept : IsTrue way.keep → deletions log ≡ 0
    pub within : added_count log ≤ way.budget
    pub end : IsAnswer formula way.budget log answer
    pub decided : most_added way.keep formula.vars ≤ way.budget → answer ≢ Stopped
        → IsDecided answer

-- the log is of a search through the formula, which deleted nothing where all clauses are kept; its
-- numbers can be read, and it reads back as it is printed
pub record IsLogOf (way : Plain) (formula : Cnf) (log : List Step) : Type 0 where
  pub search : IsSearchLog formula log
  pub kept : IsTrue way.keep → deletions log ≡ 0
  pub printable : IsPrintableLog (length formula.clauses) log
  pub reads_back : ReadsLrat (length formula.clauses) (log_text log) log

-- the log refutes the formula within the budget, and nothing is said before the report
pub record IsRefuted (way : Plain) (formula : Cnf) (log : List Step) (lead : Bytes) : Type 0 where
  pub of : IsLogOf way formula log
  pub refutes : IsRefutation formula way.budget log
  pub silent : lead ≡ []

-- the log has as many learned clauses as the budget allows, none of them empty; with a larger one
-- than that no search spends it
pub record IsSpent (way : Plain) (formula : Cnf) (log : List Step) : Type 0 where
  pub spends : SpendsAll way.budget log
  pub short : way.budget < most_added way.keep formula.vars

-- the search may be stopped, and the log has at most as many learned clauses as the budget allows,
-- none of them empty
pub record IsStopped (way : Plain) (log : List Step) : Type 0 where
  pub limited : IsTrue way.limited
  pub leaves : LeavesOpen way.budget log

-- the log leaves the formula open: the budget is spent, or the caller stopped the search
pub record IsLeftOpen (way : Plain) (formula : Cnf) (log : List Step) : Type 0 where
  pub of : IsLogOf way formula log
  pub ends : IsSpent way formula log ⊎ IsStopped way log
