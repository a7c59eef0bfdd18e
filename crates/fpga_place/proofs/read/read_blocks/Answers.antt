use Rattle.std.proofs.Common.{◌+◌, length, refl, ap, ◌∙◌, arith}
use Rattle.std.proofs.lemmas.Result.{err_from_is_err_and}
use Rattle.fpga_text.proofs.FaultLemmas.{past-nothing}
use Rattle.fpga_text.proofs.ReadingLemmas.{IsTaken, next_line-past, next_line-taken}
use Rattle.fpga_place.specs.Drafts.{last_fault}
use Rattle.fpga_place.specs.Reading.{faults_ahead}
use Rattle.fpga_place.proofs.FaultLemmas.{named_end, named_line, past_end, past_line, refused_line}
use Rattle.fpga_place.proofs.read.read_blocks.Goals as goal
use Rattle.fpga_place.proofs.read.read_blocks.Goals.{In-Some}

-- the line was taken
taken : (c : In-Some) → IsTaken c.loop-line.lines c.next_line.new.self c.in-Some.line
taken c = next_line-taken c.loop-line.lines c.next_line.new.self c.in-Some.line
    c.in-Some.ensures.line c.in-Some.ensures.after

pub loop-line-init : goal.loop-line-init
loop-line-init c = record {
  past = past-nothing (faults_ahead c.args.draft.now c.args.lines.now);
  setting = refl;
  grid = refl;
  named = λ name. refl;
  total = refl;
}

pub returns-in_err-take_line-clause-err : goal.returns-in_err-take_line-clause-err
returns-in_err-take_line-clause-err c =
    let p = err_from_is_err_and c.from_residual.result c.from_residual.ensures.1 in
    rw (p.1, p.2) (refused_line c.loop-line.draft c.loop-line.lines c.next_line.new.self
    c.in-Some.line c.in_err-take_line.field-0.0
    (taken (goal.at.returns-in_err-take_line-clause-err c).In-Some) c.loop-line.invariant.past
    c.in_err-take_line.ensures.err)

pub loop-line-smaller : goal.loop-line-smaller
loop-line-smaller c = omega (arith, ap length (taken (goal.at.loop-line-smaller c).In-Some).ahead)

pub loop-line-preserved : goal.loop-line-preserved
loop-line-preserved c =
    let line = taken (goal.at.loop-line-preserved c).In-Some in
    record {
      past = past_line c.loop-line.draft c.take_line.new.self c.loop-line.lines c.next_line.new.self
          c.in-Some.line line c.in_ok-take_line.ensures.ok c.loop-line.invariant.past;
      setting = c.in_ok-take_line.ensures.ok.setting ∙ c.loop-line.invariant.setting;
      grid = c.in_ok-take_line.ensures.ok.grid ∙ c.loop-line.invariant.grid;
      named = λ name. named_line c.loop-line.draft c.take_line.new.self c.loop-line.lines
          c.next_line.new.self c.in-Some.line line c.in_ok-take_line.ensures.ok name
          ∙ c.loop-line.invariant.named name;
      total = line.total ∙ c.loop-line.invariant.total;
    }

pub returns-clause-ok : goal.returns-clause-ok
returns-clause-ok c =
    let past = next_line-past c.loop-line.lines c.next_line.new.self c.in_default.ensures.line
    c.in_default.ensures.after in
    record {
      left = past_end c.loop-line.draft c.loop-line.lines past.ahead c.loop-line.invariant.past
          ∙ (λ i. last_fault c.loop-line.draft (c.loop-line.invariant.total i + 1));
      setting = c.loop-line.invariant.setting;
      grid = c.loop-line.invariant.grid;
      named = λ name. named_end c.loop-line.draft c.loop-line.lines past.ahead name
          ∙ c.loop-line.invariant.named name;
      taken = past.taken ∙ c.loop-line.invariant.total;
    }
