use Rattle.problem_facts.proofs.SlotCells.{all-there}
use Rattle.route_count.proofs.clause_ids.ClauseIds.of.Goals as goal

pub rivals_after-requires-clause-there : goal.rivals_after-requires-clause-there
rivals_after-requires-clause-there c =
    rw (c.slots-slots.ensures.value, c.route.ensures.value)
    (all-there c.args.problem.now.route c.route.ensures.given.route)
