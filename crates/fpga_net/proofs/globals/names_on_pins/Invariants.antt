-- the nets of the lines so far were looked for, and they are few
use Rattle.std.proofs.Common.{◌≤◌, ◌+◌, length}
use Rattle.fpga_types.specs.declared.limits.TheConstants.{NET_LIMIT}
use Rattle.fpga_net.specs.Globals.{HasLooked}
use Rattle.fpga_net.proofs.globals.names_on_pins.Given as goal

abbrev pub invariant-loop-lines : goal.invariant-loop-lines
invariant-loop-lines l = record {
  looked : HasLooked l.pins l.initial.lines.ahead l.lines.ahead l.names;
  few : length l.names ≤ NET_LIMIT + l.pins;
}

abbrev pub decreases-loop-lines : goal.decreases-loop-lines
decreases-loop-lines l = length l.lines.ahead
