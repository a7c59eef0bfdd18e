use Rattle.std.proofs.Common.{rules}
use Rattle.desk_io.proofs.RowLemmas.{row-ends, row-fails, row-passes}
use Rattle.desk_io.proofs.WritingLaws.{passes-none}
use Rattle.sat_text.specs.Printed.{step_text}
use Rattle.sat_text.proofs.write_log.LratTextPrintsLog.print.Goals as goal

pub loop-i-init : goal.loop-i-init
loop-i-init g c = record { passed = passes-none _ _; created = c.requires }

pub returns-in_default-clause-written : goal.returns-in_default-clause-written
returns-in_default-clause-written g c =
    row-fails step_text c.args.log.now.steps c.loop-i.i _ c.step.ensures.value
    c.loop-i.invariant.passed c.in_default.ensures

pub loop-i-preserved : goal.loop-i-preserved
loop-i-preserved g c = record {
  passed = row-passes step_text c.args.log.now.steps c.loop-i.i _ c.step.ensures.value
      c.loop-i.invariant.passed c.in-Ok.ensures;
  created = search rules;
}

pub returns-clause-written : goal.returns-clause-written
returns-clause-written g c =
    row-ends step_text c.args.log.now.steps c.loop-i.i (search rules) c.loop-i.invariant.passed
