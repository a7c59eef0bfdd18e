use Rattle.std.proofs.Common.{ap, codes, ◌∙◌}
use Rattle.std.proofs.lemmas.Result.{IfOk-weaker}
use Rattle.router_words.specs.Form.{with_word}
use Rattle.router_words.proofs.form.add_placed.Goals as goal

pub returns : goal.returns
returns c =
    let netlist = c.in_ok-command-2.ensures
    ∙ ap (with_word (codes "netlist")) c.in_ok-command.ensures in
    IfOk-weaker c.add_word-3.result _ _ (λ r h. h ∙ ap (with_word (codes "placement")) netlist)
    c.add_word-3.ensures
