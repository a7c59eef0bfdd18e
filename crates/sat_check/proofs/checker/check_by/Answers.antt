use Rattle.std.proofs.Common.{◌≡◌, length, take, add-one, arith}
use Rattle.std.proofs.Math.Seq.{take-length}
use Rattle.sat_check.specs.Verdict.{step_of}
use Rattle.sat_check.proofs.StepLaws.{take_more}
use Rattle.sat_check.proofs.checker.check_by.Goals as goal

pub loop-i-preserved : goal.loop-i-preserved
loop-i-preserved g c =
    let steps = c.args.log.now.steps in
    rw (add-one, take_more steps c.loop-i.i (step_of c.step.result) c.step.ensures.value)
    (c.in-Ok-take.ensures.ok c.args.formula.now.cnf (take c.loop-i.i steps) c.loop-i.invariant)

pub returns-clause-judged : goal.returns-clause-judged
returns-clause-judged g c =
    let steps = c.args.log.now.steps in
    let all : c.loop-i.i ≡ length steps = omega (arith, c.len-i-end.ensures) in
    c.verdict.ensures.judged c.args.formula.now.cnf steps
    (rw (all, take-length steps) at c.loop-i.invariant)

pub returns-clause-sound : goal.returns-clause-sound
returns-clause-sound g c =
    let steps = c.args.log.now.steps in
    let all : c.loop-i.i ≡ length steps = omega (arith, c.len-i-end.ensures) in
    c.verdict.ensures.sound c.args.formula.now.cnf steps
    (rw (all, take-length steps) at c.loop-i.invariant)
