-- whether one of the lines ahead names global nets tells it of all lines
use Rattle.std.proofs.Common.{◌≡◌, length}
use Rattle.fpga_net.specs.Globals.{some_globals}
use Rattle.fpga_net.proofs.globals.names_globals.Given as goal

abbrev pub invariant-loop-line : goal.invariant-loop-line
invariant-loop-line l = some_globals l.lines.ahead ≡ some_globals l.initial.lines.ahead

abbrev pub decreases-loop-line : goal.decreases-loop-line
decreases-loop-line l = length l.lines.ahead
