use Rattle.fpga_route.proofs.PrintableLemmas.{can_print}
use Rattle.fpga_route.proofs.ReadBackLemmas.{reads_back}
use Rattle.run_placed.proofs.negotiating.read_back.Goals as goal

pub returns-in-Ok-clause-back : goal.returns-in-Ok-clause-back
returns-in-Ok-clause-back c =
    let h = c.in-Ok.ensures.answers in
    reads_back c.in-Ok.found (can_print c.deref.result.now c.in-Ok.found h)
