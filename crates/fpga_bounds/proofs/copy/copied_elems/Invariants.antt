-- the copy has the elements so far
use Rattle.std.proofs.Common.{◌≡◌, take}
use Rattle.std.specs.Prelude.{map}
use Rattle.fpga_types.specs.Legal.{with_track}
use Rattle.fpga_bounds.proofs.copy.copied_elems.Given as goal

abbrev pub invariant-loop-e : goal.invariant-loop-e
invariant-loop-e l =
    l.copy.items ≡ map (with_track l.table l.tracks l.n) (take l.e-index l.elems)
