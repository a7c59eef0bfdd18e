use Rattle.std.proofs.Common.{◌<◌, List, length, refl, arith}
use Rattle.list_laws.proofs.Places.{get-there}
use Rattle.fpga_types.specs.Terminals.{terminal_of}
use Rattle.fpga_types.specs.declared.netlist.PinRef.{PinRef}
use Rattle.fpga_bounds.proofs.EndLemmas.{terminals-more}
use Rattle.fpga_bounds.proofs.net_ends.terminals_of.Goals as goal

pub loop-pin-preserved : goal.loop-pin-preserved
loop-pin-preserved c =
    let pins : List PinRef = c.args.pins.now in
    let within : c.loop-pin.pin-index < length pins = omega arith in
    terminals-more (terminal_of c.args.design.now) pins c.loop-pin.pin-index _ c.terminal_of.result
    c.loop-pin.terminals c.add_terminal.new.terminals
    (get-there pins c.loop-pin.pin-index _ (record { block = 0; pin = 0 }) within refl)
    c.terminal_of.ensures c.in_ok-add_terminal.ensures c.loop-pin.invariant
