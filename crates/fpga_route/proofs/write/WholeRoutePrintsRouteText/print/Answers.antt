use Rattle.fpga_route.proofs.ReadBackLemmas.{reads_back}
use Rattle.fpga_route.proofs.write.WholeRoutePrintsRouteText.print.Goals as goal

pub returns-clause-known : goal.returns-clause-known
returns-clause-known g c _ can = reads_back c.args.item.now can
