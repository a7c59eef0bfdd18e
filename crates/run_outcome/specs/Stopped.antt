-- Searches that are stopped before their budgets are spent, or before they give up, which the words
-- have to set a limit of time for.
use Rattle.std.specs.Prelude.{◌≡◌, ℕ, ◌<◌, Bool, false, true, is_some, List, Result, Ok, Err}
use Rattle.router_words.specs.declared.fault.Refusal.{Refusal}
use Rattle.run_outcome.specs.Subject.{Blames, JobAsked, Narrows, Negotiates, Routes, Sweeps, Tries, Word, job_of}
use Rattle.run_outcome.specs.declared.outcome.Outcome.{Outcome}
use Rattle.run_outcome.specs.declared.outcome.Outcome.TheVariants.{Undecided, Unfound}

-- a search was left open after fewer learned clauses than these
pub record EndsEarly (budget : ℕ) (outcome : Outcome) : Type 0 where
  pub width : ℕ
  pub learned : ℕ
  pub is : outcome ≡ Undecided width learned
  pub fewer : learned < budget

-- no route was found in rounds that were stopped
abbrev pub AreRoundsStopped : Outcome → Type 0
AreRoundsStopped (Unfound width rounds stopped) = stopped ≡ true
AreRoundsStopped outcome = ⊥

-- how many clauses a search of the job may learn, if it searches so
abbrev pub budget_asked : JobAsked → ℕ
budget_asked (Routes job) = job.search.conflicts
budget_asked (Sweeps job) = job.search.conflicts
budget_asked (Blames job) = job.conflicts
budget_asked (Tries job) = job.search.conflicts
budget_asked job = 0

-- the search of the job was stopped
abbrev pub IsStoppedJob : JobAsked → Outcome → Type 0
IsStoppedJob (Negotiates job) outcome = AreRoundsStopped outcome
IsStoppedJob (Narrows job) outcome = AreRoundsStopped outcome
IsStoppedJob job outcome = EndsEarly (budget_asked job) outcome

-- the words ask for a search, which was left open before its budget was spent, or in rounds that
-- were stopped
pub record WasStopped (words : List Word) (outcome : Outcome) : Type 0 where
  pub job : JobAsked
  pub asked : job_of words ≡ Ok job
  pub early : IsStoppedJob job outcome

-- the searches of the job have a limit of time
abbrev pub is_timed : JobAsked → Bool
is_timed (Routes job) = is_some job.search.seconds
is_timed (Sweeps job) = is_some job.search.seconds
is_timed (Blames job) = is_some job.seconds
is_timed (Negotiates job) = is_some job.seconds
is_timed (Narrows job) = is_some job.seconds
is_timed (Tries job) = is_some job.search.seconds
is_timed job = false

-- so have those of the job that is asked for, if one is
abbrev pub is_asked_timed : Result JobAsked Refusal → Bool
is_asked_timed (Ok job) = is_timed job
is_asked_timed (Err cause) = false

-- so have those that the words ask for
abbrev pub are_timed : List Word → Bool
are_timed words = is_asked_timed (job_of words)
