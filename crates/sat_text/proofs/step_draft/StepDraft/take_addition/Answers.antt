use Rattle.sat_text.proofs.LratLemmas.{all_literals}
use Rattle.sat_text.proofs.step_draft.StepDraft.take_addition.Goals as goal

pub add-requires : goal.add-requires
add-requires c =
    rw c.in-Ok-read_literals.ensures
    (all_literals c.in-Ok.said.lits.now c.in-Ok.ensures.literals)
