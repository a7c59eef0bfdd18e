use Rattle.std.proofs.Common.{ap, codes, ◌∙◌}
use Rattle.std.proofs.lemmas.Result.{IfOk-weaker}
use Rattle.router_words.specs.Form.{with_effort, with_flag, with_option}
use Rattle.router_words.proofs.form.add_search.Goals as goal

pub returns : goal.returns
returns c =
    let effort = c.in_ok-command-2.ensures ∙ ap with_effort c.in_ok-command.ensures in
    let reach = c.in_ok-command-3.ensures ∙ ap (with_option (codes "reach")) effort in
    IfOk-weaker c.add_flag.result _ _ (λ r h. h ∙ ap (with_flag (codes "stats")) reach)
    c.add_flag.ensures
