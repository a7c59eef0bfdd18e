use Rattle.std.proofs.Common.{ap, codes, ◌∙◌}
use Rattle.std.proofs.lemmas.Result.{IfOk-weaker}
use Rattle.router_words.specs.Form.{with_word}
use Rattle.router_words.proofs.form.add_files.Goals as goal

pub returns : goal.returns
returns c =
    IfOk-weaker c.add_word.result _ _
    (λ r h. h ∙ ap (with_word (codes "route")) c.in_ok-command.ensures) c.add_word.ensures
