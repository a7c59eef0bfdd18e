use Rattle.std.proofs.Common.{refl}
use Rattle.std.proofs.lemmas.Result.{on_ok_weaker}
use Rattle.router_says.proofs.words.append_meaning.Goals as goal

pub returns-in-InputFault : goal.returns-in-InputFault
returns-in-InputFault g c = rw c.in-InputFault.is c.append_bad_line.ensures

pub returns-in-NotLegal : goal.returns-in-NotLegal
returns-in-NotLegal g c = rw c.in-NotLegal.is c.append_not_legal.ensures

pub returns-in-Unroutable : goal.returns-in-Unroutable
returns-in-Unroutable g c = rw c.in-Unroutable.is (on_ok_weaker c.append_refuted.result
    (λ added. (added.0, (added.1, refl), added.2)) c.append_refuted.ensures)

pub returns-in-Undecided : goal.returns-in-Undecided
returns-in-Undecided g c = rw c.in-Undecided.is (on_ok_weaker c.append_left_open.result
    (λ added. (added.0, (added.1, refl), added.2)) c.append_left_open.ensures)
