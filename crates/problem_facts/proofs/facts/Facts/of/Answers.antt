use Rattle.problem_facts.proofs.SlotCells.{all-there}
use Rattle.problem_facts.proofs.facts.Facts.of.Goals as goal

pub fullest_cell-fullest-requires-clause-there : goal.fullest_cell-fullest-requires-clause-there
fullest_cell-fullest-requires-clause-there c =
    rw (c.slots-slots.ensures.value, c.route.ensures.value)
    (all-there c.args.problem.now.route c.route.ensures.given.route)
