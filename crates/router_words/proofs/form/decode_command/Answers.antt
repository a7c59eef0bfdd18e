use Rattle.std.proofs.Common.{ap, codes, ◌∙◌}
use Rattle.std.proofs.lemmas.Result.{IfOk-weaker}
use Rattle.router_words.specs.Form.{with_files, with_option, with_symmetry, with_word}
use Rattle.router_words.proofs.form.decode_command.Goals as goal

pub returns : goal.returns
returns c =
    let files = c.in_ok-problem.ensures ∙ ap with_files c.named.ensures in
    let width = c.in_ok-command.ensures ∙ ap (with_word (codes "width")) files in
    let model = c.in_ok-command-2.ensures ∙ ap (with_word (codes "model")) width in
    let prefix = c.in_ok-command-3.ensures ∙ ap (with_word (codes "prefix")) model in
    let symmetry = c.in_ok-command-4.ensures ∙ ap with_symmetry prefix in
    IfOk-weaker c.add_option.result _ _ (λ r h. h ∙ ap (with_option (codes "reach")) symmetry)
    c.add_option.ensures
