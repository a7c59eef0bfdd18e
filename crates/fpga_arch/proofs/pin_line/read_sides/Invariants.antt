-- the words so far are those of sides, and these with those ahead are all
use Rattle.std.proofs.Common.{◌≡◌, length, true}
use Rattle.std.specs.List.{list_any}
use Rattle.fpga_types.specs.ArchSound.{has_side}
use Rattle.fpga_arch.specs.Pins.{is_no_side, lacks_sides, side_set, with_sides}
use Rattle.fpga_arch.proofs.pin_line.read_sides.Given as goal

abbrev pub invariant-loop-word : goal.invariant-loop-word
invariant-loop-word l = record {
  sides : with_sides l.sides (side_set l.line.words) ≡ side_set l.fn.line.words;
  lacks : list_any is_no_side l.line.words ≡ lacks_sides l.fn.line.words;
  sided : has_side l.sides ≡ true;
}

abbrev pub decreases-loop-word : goal.decreases-loop-word
decreases-loop-word l = length l.line.words
