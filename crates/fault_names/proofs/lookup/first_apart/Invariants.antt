-- each name so far is one of the others
use Rattle.std.proofs.Common.{◌≡◌, drop}
use Rattle.fault_names.specs.Lookups.{bytes_of, first_apart}
use Rattle.fault_names.proofs.lookup.first_apart.Given as goal

abbrev pub invariant-loop-name : goal.invariant-loop-name
invariant-loop-name l = first_apart (bytes_of l.others) (bytes_of (drop l.name-index l.names))
    ≡ first_apart (bytes_of l.others) (bytes_of l.names)
