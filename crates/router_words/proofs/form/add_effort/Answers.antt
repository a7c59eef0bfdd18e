use Rattle.std.proofs.Common.{ap, codes, ◌∙◌}
use Rattle.std.proofs.lemmas.Result.{IfOk-weaker}
use Rattle.router_words.specs.Form.{with_flag, with_option}
use Rattle.router_words.proofs.form.add_effort.Goals as goal

pub returns : goal.returns
returns c =
    let seconds = c.in_ok-command-2.ensures
    ∙ ap (with_option (codes "seconds")) c.in_ok-command.ensures in
    let keep = c.in_ok-command-3.ensures ∙ ap (with_flag (codes "keep")) seconds in
    IfOk-weaker c.add_flag-2.result _ _ (λ r h. h ∙ ap (with_flag (codes "count")) keep)
    c.add_flag-2.ensures
