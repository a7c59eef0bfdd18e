-- no line so far says a cut
use Rattle.std.proofs.Common.{◌≡◌, length}
use Rattle.route_picture.specs.Cut.{first_cut}
use Rattle.route_picture.proofs.cut.first_cut.Given as goal

abbrev pub invariant-loop-line : goal.invariant-loop-line
invariant-loop-line l = first_cut l.initial.lines.ahead ≡ first_cut l.lines.ahead

abbrev pub decreases-loop-line : goal.decreases-loop-line
decreases-loop-line l = length l.lines.ahead
