-- the names of the lines so far were taken
use Rattle.std.proofs.Common.{length}
use Rattle.route_picture.specs.Blame.{TakesFront, given}
use Rattle.route_picture.proofs.blame.blamed.Given as goal

abbrev pub invariant-loop-line : goal.invariant-loop-line
invariant-loop-line l =
    TakesFront l.nets (given l.initial.lines.ahead) (given l.lines.ahead) l.names

abbrev pub decreases-loop-line : goal.decreases-loop-line
decreases-loop-line l = length l.lines.ahead
