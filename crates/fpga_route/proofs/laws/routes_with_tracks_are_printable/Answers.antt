use Rattle.fpga_route.proofs.PrintableLemmas.{can_print_tracks}
use Rattle.fpga_route.proofs.laws.routes_with_tracks_are_printable.Goals as goal

pub returns : goal.returns
returns c = can_print_tracks
