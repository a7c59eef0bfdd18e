use Rattle.std.proofs.Common.{take}
use Rattle.sat_check.specs.Replaying.{HasReplayed}
use Rattle.sat_check.proofs.checker.check_by.Given as goal

-- the steps so far were taken
abbrev pub invariant-loop-i : goal.invariant-loop-i
invariant-loop-i g l =
    HasReplayed g.R.StepRule.fault g.R.StepRule.tracks l.formula.cnf (take l.i l.log.steps) l.replay
