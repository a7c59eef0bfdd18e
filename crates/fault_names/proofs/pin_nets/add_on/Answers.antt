use Rattle.fault_names.proofs.PinNetLemmas.{nets-end}
use Rattle.fault_names.specs.Lookups.{bytes_of}
use Rattle.fault_names.proofs.pin_nets.add_on.Goals as goal

pub returns-in_default : goal.returns-in_default
returns-in_default c = nets-end c.args.drives c.loop-pin.pin-index c.args.pins.now
    c.loop-pin.line.words (bytes_of c.loop-pin.names.items) _ c.loop-pin.invariant
    c.in_default.ensures.word
