use Rattle.std.proofs.Common.{◌+◌, length, refl, sym, ap, ◌∙◌, arith}
use Rattle.std.specs.Prelude.{fold}
use Rattle.std.proofs.lemmas.Result.{err_from_is_err_and}
use Rattle.fpga_text.proofs.FaultLemmas.{past-nothing}
use Rattle.fpga_text.proofs.ReadingLemmas.{IsTaken, next_line-past, next_line-taken}
use Rattle.fpga_net.specs.Codes.{behind, forms_of}
use Rattle.fpga_net.specs.Drafts.{faults_ahead, last_fault}
use Rattle.fpga_net.proofs.LineLemmas.{past_end, past_line, refused_line}
use Rattle.fpga_net.proofs.read.read_lines.Goals as goal
use Rattle.fpga_net.proofs.read.read_lines.Goals.{In-Some}

-- the line was taken
taken : (c : In-Some) → IsTaken c.loop-line.lines c.next_line.new.self c.in-Some.line
taken c = next_line-taken c.loop-line.lines c.next_line.new.self c.in-Some.line
    c.in-Some.ensures.line c.in-Some.ensures.after

pub loop-line-init : goal.loop-line-init
loop-line-init c = record {
  past = past-nothing (faults_ahead c.args.draft.now.context c.args.lines.now);
  context = refl;
  kept = c.requires;
  total = refl;
}

pub returns-in_err-take_line-clause-err : goal.returns-in_err-take_line-clause-err
returns-in_err-take_line-clause-err c =
    let p = err_from_is_err_and c.from_residual.result c.from_residual.ensures.1 in
    rw (p.1, p.2) (refused_line c.loop-line.draft c.loop-line.lines c.next_line.new.self
    c.in-Some.line c.in_err-take_line.field-0.0
    (taken (goal.at.returns-in_err-take_line-clause-err c).In-Some) c.loop-line.invariant.past
    c.in_err-take_line.ensures.err)

pub loop-line-smaller : goal.loop-line-smaller
loop-line-smaller c = omega (arith, ap length (taken (goal.at.loop-line-smaller c).In-Some).ahead)

pub loop-line-preserved : goal.loop-line-preserved
loop-line-preserved c =
    let line = taken (goal.at.loop-line-preserved c).In-Some in
    let takes = c.in_ok-take_line.ensures.ok in
    record {
      past = past_line c.loop-line.draft c.take_line.new.self c.loop-line.lines c.next_line.new.self
          c.in-Some.line line takes c.loop-line.invariant.past;
      context = ap (λ d. fold behind d (forms_of c.next_line.new.self.ahead)) takes.after
          ∙ ap (λ ls. fold behind c.loop-line.draft.context (forms_of ls)) (sym line.ahead)
          ∙ c.loop-line.invariant.context;
      kept = takes.kept;
      total = line.total ∙ c.loop-line.invariant.total;
    }

pub returns-clause-ok : goal.returns-clause-ok
returns-clause-ok c =
    let past = next_line-past c.loop-line.lines c.next_line.new.self c.in_default.ensures.line
    c.in_default.ensures.after in
    record {
      last = past_end c.loop-line.draft c.loop-line.lines past.ahead c.loop-line.invariant.past
          ∙ ap (λ n. last_fault c.loop-line.draft.context (n + 1)) c.loop-line.invariant.total;
      context = ap (λ ls. fold behind c.loop-line.draft.context (forms_of ls)) (sym past.ahead)
          ∙ c.loop-line.invariant.context;
      kept = c.loop-line.invariant.kept;
      taken = past.taken ∙ c.loop-line.invariant.total;
    }
