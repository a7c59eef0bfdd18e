use Rattle.std.proofs.Common.{ap, codes, ◌∙◌}
use Rattle.std.proofs.lemmas.Result.{IfOk-weaker}
use Rattle.router_words.specs.Form.{with_option}
use Rattle.router_words.proofs.form.add_members.Goals as goal

pub returns : goal.returns
returns c =
    IfOk-weaker c.add_option-2.result _ _
    (λ r h. h ∙ ap (with_option (codes "seed")) c.in_ok-command.ensures) c.add_option-2.ensures
