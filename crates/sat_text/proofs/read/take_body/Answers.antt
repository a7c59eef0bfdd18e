use Rattle.std.proofs.Common.{◌∙◌, ap, sym}
use Rattle.fpga_text.proofs.FaultLemmas.{past-line}
use Rattle.sat_text.specs.Bodies.{body_fault}
use Rattle.sat_text.specs.Drafts.{head_in}
use Rattle.sat_text.specs.ToldLines.{told}
use Rattle.sat_text.proofs.CnfLemmas.{read_line}
use Rattle.sat_text.proofs.read.take_body.Goals as goal

pub loop-line-preserved : goal.loop-line-preserved
loop-line-preserved c =
    let line = c.in-Some.line in
    let so_far = c.loop-line.invariant.read in
    let is = c.in-Some.ensures.line.ahead in
    record {
      past = past-line {fault = body_fault (head_in c.args.draft.now) line}
          (rw is at c.loop-line.invariant.past)
          (ap (λ head. body_fault head line) (sym so_far.taken.head) ∙ c.in-Ok.ensures.0);
      read = read_line c.args.draft.now c.loop-line.draft c.take_line.new.self
          (told c.args.lines.now.ahead) (told c.loop-line.lines.ahead)
          (told c.next_told.new.lines.ahead) line so_far is c.in-Ok.ensures.1;
      total = c.in-Some.ensures.line.total ∙ c.loop-line.invariant.total;
    }
