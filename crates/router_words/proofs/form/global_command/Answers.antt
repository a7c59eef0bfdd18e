use Rattle.std.proofs.Common.{ap, ◌∙◌}
use Rattle.std.proofs.lemmas.Result.{IfOk-weaker}
use Rattle.router_words.specs.Form.{with_negotiation}
use Rattle.router_words.proofs.form.global_command.Goals as goal

pub returns : goal.returns
returns c = IfOk-weaker c.add_negotiation.result _ _
    (λ r h. h ∙ ap with_negotiation c.named.ensures) c.add_negotiation.ensures
