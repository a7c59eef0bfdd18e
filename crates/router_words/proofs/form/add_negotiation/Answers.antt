use Rattle.std.proofs.Common.{ap, codes, ◌∙◌}
use Rattle.std.proofs.lemmas.Result.{IfOk-weaker}
use Rattle.router_words.specs.Form.{with_flag, with_option, with_width_and_prefix}
use Rattle.router_words.proofs.form.add_negotiation.Goals as goal

pub returns : goal.returns
returns c =
    let width = c.in_ok-command.ensures ∙ ap with_width_and_prefix c.in_ok-placed.ensures in
    let free = c.in_ok-command-2.ensures ∙ ap (with_flag (codes "free")) width in
    let from = c.in_ok-command-3.ensures ∙ ap (with_option (codes "from")) free in
    let rounds = c.in_ok-command-4.ensures ∙ ap (with_option (codes "rounds")) from in
    let seconds = c.in_ok-command-5.ensures ∙ ap (with_option (codes "seconds")) rounds in
    IfOk-weaker c.add_flag-2.result _ _ (λ r h. h ∙ ap (with_flag (codes "stats")) seconds)
    c.add_flag-2.ensures
