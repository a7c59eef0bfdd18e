use Rattle.std.proofs.Common.{length, refl, sym, ap, ◌∙◌, arith}
use Rattle.std.proofs.lemmas.Result.{err_from_is_err_and}
use Rattle.fpga_text.proofs.FaultLemmas.{past-nothing}
use Rattle.fpga_text.proofs.ReadingLemmas.{IsTaken, next_line-taken}
use Rattle.fpga_route.specs.Drafts.{nets_with}
use Rattle.fpga_route.specs.Nets.{faults_ahead}
use Rattle.fpga_route.proofs.FaultLemmas.{past_line, refused_line}
use Rattle.fpga_route.proofs.read.read_nets.Goals as goal
use Rattle.fpga_route.proofs.read.read_nets.Goals.{In-Some}

-- the line was taken
taken : (c : In-Some) → IsTaken c.loop-line.lines c.next_line.new.self c.in-Some.line
taken c = next_line-taken c.loop-line.lines c.next_line.new.self c.in-Some.line
    c.in-Some.ensures.line c.in-Some.ensures.after

pub loop-line-init : goal.loop-line-init
loop-line-init c =
    record {
      past = past-nothing (faults_ahead c.args.draft.now c.args.lines.now);
      nets =
          refl;
      total = refl;
    }

pub returns-in_err-take_line-clause-err : goal.returns-in_err-take_line-clause-err
returns-in_err-take_line-clause-err c =
    let p = err_from_is_err_and c.from_residual.result c.from_residual.ensures.1 in
    rw (p.1, p.2) (refused_line c.loop-line.draft c.loop-line.lines c.next_line.new.self
    c.in-Some.line c.in_err-take_line.field-0.0
    (taken (goal.at.returns-in_err-take_line-clause-err c).In-Some) c.loop-line.invariant.past
    c.in_err-take_line.ensures.err)

pub loop-line-smaller : goal.loop-line-smaller
loop-line-smaller c = omega (arith, ap length (taken (goal.at.loop-line-smaller c).In-Some).ahead)

pub loop-line-preserved : goal.loop-line-preserved
loop-line-preserved c =
    let line = taken (goal.at.loop-line-preserved c).In-Some in
    record {
      past = past_line c.loop-line.draft c.take_line.new.self c.loop-line.lines c.next_line.new.self
          c.in-Some.line line c.in_ok-take_line.ensures.ok c.loop-line.invariant.past;
      nets = c.in_ok-take_line.ensures.ok.value c.next_line.new.self.ahead
          ∙ ap (nets_with c.loop-line.draft) (sym line.ahead) ∙ c.loop-line.invariant.nets;
      total = line.total ∙ c.loop-line.invariant.total;
    }
