use Rattle.problem_facts.proofs.SlotCells.{all-there}
use Rattle.route_count.proofs.crowded.crowded_by.Goals as goal

pub crowded_cell-requires-clause-there : goal.crowded_cell-requires-clause-there
crowded_cell-requires-clause-there c =
    rw (c.slots-slots.ensures.value, c.route.ensures.value)
    (all-there c.args.problem.now.route c.route.ensures.given.route)

pub first_of_cell-requires-clause-there : goal.first_of_cell-requires-clause-there
first_of_cell-requires-clause-there c =
    rw (c.slots-slots.ensures.value, c.route.ensures.value)
    (all-there c.args.problem.now.route c.route.ensures.given.route)
