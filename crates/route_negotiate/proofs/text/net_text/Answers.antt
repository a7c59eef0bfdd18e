use Rattle.std.proofs.Common.{arith}
use Rattle.route_negotiate.proofs.LineLemmas.{elems_of_text}
use Rattle.route_negotiate.proofs.text.net_text.Goals as goal

pub returns-clause-elems : goal.returns-clause-elems
returns-clause-elems c =
    elems_of_text _ _ _ _ _ c.text_of-2.result (omega arith) c.in_ok-elems.ensures
    c.text_of-2.ensures.line c.text_of-2.ensures.elems
