-- What a log says of a formula: accepted, or refused at a step with a cause.
use Rattle.std.specs.Prelude.{◌≡◌, ℕ, suc, ℤ, pos, negsuc, Bool, true, false, if◌then◌else◌, List, [], ◌∷◌, Option, None, Some, is_some, fold}
use Rattle.sat_clause.specs.declared.cause.Cause.{Cause}
use Rattle.sat_clause.specs.declared.cause.Cause.TheVariants.{DeletesNotLive, NoEmptyClause}
use Rattle.sat_clause.specs.Formula.{Cnf}
use Rattle.sat_clause.specs.Live.{Live, named, put, without, numbered}
use Rattle.sat_clause.specs.Rup.{rup}
use Rattle.sat_clause.specs.Step.{Step, Added, Erased}

-- steps are numbered from 1
pub data Judgement : Type 0 where
  Accepted : Judgement
  Refused : (step : ℕ) (cause : Cause) → Judgement

-- the input clauses are live at the start, with the ids 1, 2 and so on
abbrev pub inputs : Cnf → Live
inputs formula = numbered 1 formula.clauses

-- the clause with this id is taken out; a negative number is no id
abbrev pub take_out : Live → ℤ → Live
take_out live (pos n) = without live n
take_out live (negsuc n) = live

-- the clauses with these ids are taken out in order
abbrev pub erase : Live → List ℤ → Live
erase live ids = fold take_out live ids

-- an id, as it is reached, names no live clause
abbrev pub erase_fault : Live → List ℤ → Option Cause
erase_fault live [] = None
erase_fault live (id ∷ ids) =
    if is_some (named live id) then erase_fault (take_out live id) ids else Some DeletesNotLive

-- a rule of steps: why a step is refused where these clauses are live; none where it is good
abbrev pub Rule : Type 0
Rule = Live → Step → Option Cause

-- the rule of LRAT without its resolution on a pivot
abbrev pub fault : Rule
fault live (Added id clause hints) = rup live clause hints
fault live (Erased id ids) = erase_fault live ids

-- the live clauses after a good step
abbrev pub after : Live → Step → Live
after live (Added id clause hints) = put live id clause
after live (Erased id ids) = erase live ids

-- the clauses that are live behind these steps
abbrev pub live_behind : Cnf → List Step → Live
live_behind formula steps = fold after (inputs formula) steps

-- the step adds the empty clause
abbrev pub is_empty_clause : Step → Bool
is_empty_clause (Added id [] hints) = true
is_empty_clause (Added id (l ∷ ls) hints) = false
is_empty_clause (Erased id ids) = false

-- a refused step ends the steps, and so does a good empty clause
abbrev pub judge_step : ℕ → Option Cause → Bool → Judgement → Judgement
judge_step n (Some cause) is_last rest = Refused n cause
judge_step n None true rest = Accepted
judge_step n None false rest = rest

-- the steps in order by a rule, the first of which has this number
abbrev pub judge_steps : Rule → ℕ → Live → List Step → Judgement
judge_steps rule n live [] = Refused n NoEmptyClause
judge_steps rule n live (step ∷ steps) =
    judge_step n (rule live step) (is_empty_clause step)
    (judge_steps rule (suc n) (after live step) steps)

-- what the log says of the formula by a rule
abbrev pub judge_by : Rule → Cnf → List Step → Judgement
judge_by rule formula log = judge_steps rule 1 (inputs formula) log

-- the same by unit propagation alone
abbrev pub judge_from : ℕ → Live → List Step → Judgement
judge_from = judge_steps fault

abbrev pub judge : Cnf → List Step → Judgement
judge = judge_by fault

-- the log refutes the formula
abbrev pub Accepts : Cnf → List Step → Type 0
Accepts formula log = judge formula log ≡ Accepted

-- no step is refused; that no empty clause was added yet does not count
abbrev pub IsGoodSoFar : Cnf → List Step → Type 0
IsGoodSoFar formula log = (n : ℕ) (cause : Cause) →
    judge formula log ≡ Refused n cause → cause ≡ NoEmptyClause
