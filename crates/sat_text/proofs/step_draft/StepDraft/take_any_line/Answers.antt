use Rattle.std.proofs.Common.{◌∙◌, false, sym}
use Rattle.std.proofs.lemmas.Result.{MatchResult-weaker}
use Rattle.sat_text.specs.StepDrafts.{TakesStep}
use Rattle.sat_text.proofs.LratLemmas.{numbers_answer}
use Rattle.sat_text.proofs.step_draft.StepDraft.take_any_line.Goals as goal

pub returns : goal.returns
returns c = numbers_answer c.args.self.now.rule c.args.self.now.above c.number-number.result
    c.args.line.now false
    c.read_numbers.new.numbers.items
    (TakesStep c.args.self.now c.take_addition.new.self) c.take_addition.result
    c.number-number.ensures c.in-Ok.ensures.0
    (sym c.if-deletes.false ∙ c.in-Ok.ensures.1.0) c.in-Ok.ensures.1.1
    (MatchResult-weaker c.take_addition.result c.take_addition.ensures
    (λ _ p. (p.0, record { says = p.1.says; above = p.1.above; rule = p.1.rule }))
    (λ _ refused. refused))
