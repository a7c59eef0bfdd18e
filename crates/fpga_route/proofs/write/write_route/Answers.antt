use Rattle.fpga_route.proofs.ReadBackLemmas.{reads_back}
use Rattle.fpga_route.proofs.write.write_route.Goals as goal

pub returns-clause-read_back : goal.returns-clause-read_back
returns-clause-read_back g c can = reads_back c.args.route.now can
