-- the nets that were added and those of the lines ahead are those of all lines
use Rattle.std.proofs.Common.{◌≡◌, ◌++◌, None, length}
use Rattle.fault_names.specs.Lookups.{bytes_of}
use Rattle.fault_names.specs.PinNets.{nets_along}
use Rattle.fault_names.proofs.pin_nets.add_pin_nets.Given as goal

abbrev pub invariant-loop-line : goal.invariant-loop-line
invariant-loop-line l =
    bytes_of l.names.items ++ nets_along l.drives l.pins l.begun l.lines.ahead
    ≡ bytes_of l.initial.names.items ++ nets_along l.drives l.pins None l.initial.lines.ahead

abbrev pub decreases-loop-line : goal.decreases-loop-line
decreases-loop-line l = length l.lines.ahead
