use Rattle.std.proofs.Common.{ap, codes, ◌∙◌}
use Rattle.std.proofs.lemmas.Result.{IfOk-weaker}
use Rattle.router_words.specs.Form.{with_files, with_flag, with_option, with_symmetry, with_width_and_prefix}
use Rattle.router_words.proofs.form.core_command.Goals as goal

pub returns : goal.returns
returns c =
    let files = c.in_ok-command.ensures ∙ ap with_files c.named.ensures in
    let width = c.in_ok-command-2.ensures ∙ ap with_width_and_prefix files in
    let conflicts = c.in_ok-command-3.ensures ∙ ap (with_option (codes "conflicts")) width in
    let seconds = c.in_ok-command-4.ensures ∙ ap (with_option (codes "seconds")) conflicts in
    let symmetry = c.in_ok-command-5.ensures ∙ ap with_symmetry seconds in
    IfOk-weaker c.add_flag.result _ _ (λ r h. h ∙ ap (with_flag (codes "stats")) symmetry)
    c.add_flag.ensures
