use Rattle.std.proofs.Common.{◌∙◌, ap, codes}
use Rattle.std.proofs.lemmas.Result.{IfOk-weaker}
use Rattle.router_words.specs.Form.{with_flag}
use Rattle.router_words.proofs.form.add_symmetry.Goals as goal

pub returns : goal.returns
returns c =
    IfOk-weaker c.add_flag-2.result _ _
    (λ r h. h ∙ ap (with_flag (codes "symmetry")) c.in_ok-command.ensures) c.add_flag-2.ensures
