use Rattle.std.proofs.lemmas.Result.{IfErr-weaker, on_ok_weaker}
use Rattle.fpga_net.proofs.draft.Draft.take_line.Goals as goal

pub returns-in-Globals-clause-ok : goal.returns-in-Globals-clause-ok
returns-in-Globals-clause-ok c =
    rw (← c.in-Globals.ensures.form, ← c.number-number.ensures)
    (on_ok_weaker c.pass_globals.result (λ takes. takes c.form_of.new.line.words)
    c.pass_globals.ensures.ok)

pub returns-in-Globals-clause-err : goal.returns-in-Globals-clause-err
returns-in-Globals-clause-err c =
    rw (← c.in-Globals.ensures.form, ← c.number-number.ensures)
    (IfErr-weaker c.pass_globals.result _ _
    (λ fault refused. refused c.form_of.new.line.words) c.pass_globals.ensures.err)
