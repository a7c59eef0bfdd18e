-- The order by which spots are kept.
use Rattle.std.specs.declared.cmp.Ordering.{Ordering}
use Rattle.fpga_types.specs.contracts.placement.SpotOrd.TheImpl as spot_ord
use Rattle.fpga_types.specs.declared.placement.Spot.{Spot}

abbrev pub spot_cmp : Spot → Spot → Ordering
spot_cmp = (spot_ord.ghosts).cmp
