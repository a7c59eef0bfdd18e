use Rattle.problem_facts.proofs.SlotCells.{all-there}
use Rattle.run_stats.proofs.problem_size.ProblemSize.of.Goals as goal

pub slots_of_cell-requires : goal.slots_of_cell-requires
slots_of_cell-requires c = record {
  there = rw (c.slots-slots.ensures.value, c.route.ensures.value)
      (all-there c.args.problem.now.route c.route.ensures.given.route);
}
