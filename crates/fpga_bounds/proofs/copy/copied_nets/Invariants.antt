-- the copy has the nets so far
use Rattle.std.proofs.Common.{◌≡◌, take}
use Rattle.fpga_bounds.specs.Copy.{nets_with_tracks}
use Rattle.fpga_bounds.proofs.copy.copied_nets.Given as goal

abbrev pub invariant-loop-n : goal.invariant-loop-n
invariant-loop-n l = l.copy.items ≡ nets_with_tracks l.table l.tracks (take l.n l.nets)
