use Rattle.fpga_route.proofs.PrintableLemmas.{can_print}
use Rattle.fpga_route.proofs.laws.read_routes_are_printable.Goals as goal

pub returns : goal.returns
returns c = can_print
