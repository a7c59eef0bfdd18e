use Rattle.std.proofs.Common.{◌∙◌, sym}
use Rattle.model_text.proofs.ReadLemmas.{draft-gives, faultless, refused-end, refused-line}
use Rattle.model_text.proofs.read.read_model.Goals as goal

pub returns-in-Err : goal.returns-in-Err
returns-in-Err c = refused-line c.args.vars c.args.bytes.now c.in-Err.fault
    (rw (c.in-Ok.ensures.vars, c.new-lines.ensures) at c.in-Err.ensures.answers)

pub returns-then-not-draft : goal.returns-then-not-draft
returns-then-not-draft c =
    let answers = rw (c.in-Ok.ensures.vars, c.new-lines.ensures)
    at c.in-Ok-take_lines.ensures.answers in
    let count = c.line_count.ensures.count ∙ answers.1.taken in
    rw (c.at.ensures, count)
    (refused-end c.args.vars c.args.bytes.now answers.0
    (sym answers.1.is.ended ∙ c.if-not-draft.true))

pub returns : goal.returns
returns c =
    let answers = rw (c.in-Ok.ensures.vars, c.new-lines.ensures)
    at c.in-Ok-take_lines.ensures.answers in
    let many = c.in-Ok-take_lines.ensures.vars ∙ c.in-Ok.ensures.vars in (
      faultless c.args.vars c.args.bytes.now answers.0
          (sym answers.1.is.ended ∙ c.if-not-draft.false),
      draft-gives c.args.vars _ c.take_lines.new.draft answers.1.is many
          (rw many at answers.1.clean),
    )
