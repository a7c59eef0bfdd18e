-- no name so far stands twice but one of the others, and they are held
use Rattle.std.proofs.Common.{◌≡◌, [], drop, take}
use Rattle.fault_names.specs.Lookups.{Holds, bytes_of, first_again}
use Rattle.fault_names.proofs.lookup.first_again.Given as goal

abbrev pub invariant-loop-name : goal.invariant-loop-name
invariant-loop-name l = record {
  before : Holds (bytes_of (take l.name-index l.names)) l.before;
  ahead : first_again (bytes_of l.others) (bytes_of (take l.name-index l.names))
      (bytes_of (drop l.name-index l.names))
      ≡ first_again (bytes_of l.others) [] (bytes_of l.names);
}
