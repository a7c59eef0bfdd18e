-- no byte so far is a comma
use Rattle.std.proofs.Common.{◌≡◌, ℕ, ◌<◌, slice_index, false}
use Rattle.fpga_route.specs.Forms.{is_comma}
use Rattle.route_picture.proofs.cut.comma_sides.Given as goal

abbrev pub invariant-loop-i : goal.invariant-loop-i
invariant-loop-i l = (k : ℕ) → k < l.i → is_comma (slice_index l.text k) ≡ false
