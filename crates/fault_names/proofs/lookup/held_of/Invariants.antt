-- the names so far are held
use Rattle.std.proofs.Common.{take}
use Rattle.fault_names.specs.Lookups.{Holds, bytes_of}
use Rattle.fault_names.proofs.lookup.held_of.Given as goal

abbrev pub invariant-loop-name : goal.invariant-loop-name
invariant-loop-name l = Holds (bytes_of (take l.name-index l.names)) l.held
