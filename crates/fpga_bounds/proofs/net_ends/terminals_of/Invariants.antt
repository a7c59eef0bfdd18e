-- the terminals of the pins so far
use Rattle.std.proofs.Common.{take}
use Rattle.std.specs.Prelude.{filter_map}
use Rattle.fpga_types.specs.Terminals.{terminal_of}
use Rattle.fpga_bounds.specs.NetEnds.{HasTerminals}
use Rattle.fpga_bounds.proofs.net_ends.terminals_of.Given as goal

abbrev pub invariant-loop-pin : goal.invariant-loop-pin
invariant-loop-pin l =
    HasTerminals l.terminals (filter_map (terminal_of l.design) (take l.pin-index l.pins))
