use Rattle.std.proofs.Common.{◌≡◌, ◌∙◌, None, subst, sym}
use Rattle.fpga_text.proofs.ReadingLemmas.{next_line-taken}
use Rattle.model_text.specs.Drafts.{AreClean}
use Rattle.model_text.specs.ModelText.{model_line_fault}
use Rattle.model_text.proofs.ReadLemmas.{read-more}
use Rattle.model_text.proofs.read.take_lines.Goals as goal

pub loop-line-preserved : goal.loop-line-preserved
loop-line-preserved c =
    let read = c.loop-line.invariant.read in
    let line = c.in-Some.line in
    let taken = next_line-taken c.loop-line.lines c.next_line.new.self line c.in-Some.ensures.line
    c.in-Some.ensures.after in
    let answers = c.in-Ok.ensures.answers read.done
    (subst (λ v. AreClean v read.done) (sym read.many) read.clean) read.is in
    record {
      read = read-more _ c.args.lines.now.ahead c.loop-line.lines.ahead
          c.next_line.new.self.ahead line c.loop-line.draft c.take_line.new.self read taken.ahead
          c.in-Ok.ensures.vars
          (subst (λ v. model_line_fault v read.done line.number line.words ≡ None) read.many
          answers.0) answers.1;
      total = taken.total ∙ c.loop-line.invariant.total;
    }
