use Rattle.std.proofs.Common.{ap, ◌∙◌}
use Rattle.std.proofs.lemmas.Result.{IfOk-weaker}
use Rattle.router_words.specs.Form.{with_files, with_members, with_search, with_symmetry}
use Rattle.router_words.proofs.form.search_command.Goals as goal

pub returns : goal.returns
returns c =
    let files = c.in_ok-command.ensures ∙ ap with_files c.named.ensures in
    let search = c.in_ok-command-2.ensures ∙ ap with_search files in
    let symmetry = c.in_ok-command-3.ensures ∙ ap with_symmetry search in
    IfOk-weaker c.add_members.result _ _ (λ r h. h ∙ ap with_members symmetry)
    c.add_members.ensures
