use Rattle.std.proofs.Common.{◌≡◌}
use Rattle.sat_merge.specs.Needed.{MeetsSome}
use Rattle.sat_merge.proofs.needed.meet_others.Given as goal

-- what came into the set is of the clause
abbrev pub invariant-loop-l : goal.invariant-loop-l
invariant-loop-l l = record {
  size : l.met.size ≡ l.fn.met.size;
  some : MeetsSome l.fn.met.set l.clause l.met.set;
}
