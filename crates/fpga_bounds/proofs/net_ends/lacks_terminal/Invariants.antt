-- what is lacking is lacking of the pins ahead
use Rattle.std.proofs.Common.{◌≡◌, drop}
use Rattle.std.specs.Prelude.{filter_map}
use Rattle.fpga_types.specs.Terminals.{terminal_of}
use Rattle.fpga_bounds.specs.NetEnds.{lacks_one}
use Rattle.fpga_bounds.proofs.net_ends.lacks_terminal.Given as goal

abbrev pub invariant-loop-pin : goal.invariant-loop-pin
invariant-loop-pin l = lacks_one l.seen (filter_map (terminal_of l.design) l.pins)
    ≡ lacks_one l.seen (filter_map (terminal_of l.design) (drop l.pin-index l.pins))
