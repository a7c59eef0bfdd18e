use Rattle.sat_text.proofs.LratLemmas.{are_literals}
use Rattle.sat_text.proofs.step_line.addition_said.Goals as goal

pub returns-clause-literals : goal.returns-clause-literals
returns-clause-literals c =
    are_literals _ c.in-Some-clause_and_hints.lits.now c.in-Some-clause_and_hints.hints.now
    c.in-Some-clause_and_hints.ensures.nonzero c.in_default-added_limit.ensures
