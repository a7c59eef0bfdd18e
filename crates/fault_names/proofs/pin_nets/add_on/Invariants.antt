-- the nets that were added and those of the words ahead are those of all words
use Rattle.std.proofs.Common.{◌≡◌, ◌++◌, drop}
use Rattle.fault_names.specs.Lookups.{bytes_of}
use Rattle.fault_names.specs.PinNets.{nets_on}
use Rattle.fault_names.proofs.pin_nets.add_on.Given as goal

abbrev pub invariant-loop-pin : goal.invariant-loop-pin
invariant-loop-pin l =
    bytes_of l.names.items ++ nets_on l.drives (drop l.pin-index l.pins) l.line.words
    ≡ bytes_of l.initial.names.items ++ nets_on l.drives l.pins l.initial.line.words
