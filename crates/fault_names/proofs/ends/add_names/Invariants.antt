-- the names so far were added
use Rattle.std.proofs.Common.{◌≡◌, ◌++◌, take}
use Rattle.fault_names.specs.Ends.{names_of}
use Rattle.fault_names.specs.Lookups.{bytes_of}
use Rattle.fault_names.proofs.ends.add_names.Given as goal

abbrev pub invariant-loop-net : goal.invariant-loop-net
invariant-loop-net l = bytes_of l.names.items
    ≡ bytes_of l.initial.names.items ++ names_of (take l.net-index l.nets)
