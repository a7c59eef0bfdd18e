-- What a replay has found of a formula and the steps that it has taken.
use Rattle.std.specs.Prelude.{◌≡◌, ℕ, suc, ◌++◌, List, Option, None, Some}
use Rattle.sat_clause.specs.Formula.{Cnf}
use Rattle.sat_clause.specs.Judge.{Rule, judge_by, judge_steps, live_behind}
use Rattle.sat_clause.specs.Live.{Live}
use Rattle.sat_clause.specs.Step.{HaveLiterals, Step}
use Rattle.sat_check.specs.declared.verdict.Verdict.{Verdict}
use Rattle.sat_check.specs.Verdict.{judgement_of}

-- what judges steps, how many good ones were taken, and the verdict, where a step has brought one
pub record ReplayState (R : Type 0) : Type 0 where
  pub judge : R
  pub taken : ℕ
  pub verdict : Option Verdict

-- the steps are good and none adds the empty clause: whatever comes behind them is judged from the
-- clauses on that are live behind them, and these are the live ones
pub record GoesOn (rule : Rule) (AreLive : Live → Type 0) (formula : Cnf) (steps : List Step)
    (taken : ℕ) : Type 0 where
  pub live : AreLive (live_behind formula steps)
  pub ahead : (more : List Step) → judge_by rule formula (steps ++ more)
      ≡ judge_steps rule (suc taken) (live_behind formula steps) more

-- the verdict is the judgement, whatever comes behind these steps; where there is none, it goes on
abbrev pub HasFound : Rule → (Live → Type 0) → Cnf → List Step → ℕ → Option Verdict → Type 0
HasFound rule AreLive formula steps taken None = GoesOn rule AreLive formula steps taken
HasFound rule AreLive formula steps taken (Some verdict) =
    (more : List Step) → judge_by rule formula (steps ++ more) ≡ judgement_of verdict

-- these are the formula and the steps that were taken, whose clauses have literals
pub record HasReplayed {R : Type 0} (rule : Rule) (tracks : R → Live → Type 0) (formula : Cnf)
    (steps : List Step) (state : ReplayState R) : Type 0 where
  pub found : HasFound rule (tracks state.judge) formula steps state.taken state.verdict
  pub literals : HaveLiterals steps
