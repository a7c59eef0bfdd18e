use Rattle.std.proofs.Common.{ap, codes, ◌∙◌}
use Rattle.std.proofs.lemmas.Result.{IfOk-weaker}
use Rattle.router_words.specs.Form.{with_flag, with_placed, with_word}
use Rattle.router_words.proofs.form.judge_command.Goals as goal

pub returns : goal.returns
returns c =
    let placed = c.in_ok-placed.ensures ∙ ap with_placed c.named.ensures in
    let width = c.in_ok-command.ensures ∙ ap (with_word (codes "width")) placed in
    let routed = c.in_ok-command-2.ensures ∙ ap (with_word (codes "routed")) width in
    IfOk-weaker c.add_flag.result _ _ (λ r h. h ∙ ap (with_flag (codes "strict")) routed)
    c.add_flag.ensures
