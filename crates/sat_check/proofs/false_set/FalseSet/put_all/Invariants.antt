use Rattle.std.proofs.Common.{◌≡◌, ◌≤◌, ◌++◌, drop, length}
use Rattle.sat_check.proofs.false_set.FalseSet.put_all.Given as goal

abbrev pub decreases-loop-left : goal.decreases-loop-left
decreases-loop-left l = l.left

-- the literals that were put in stand before those that were there
abbrev pub invariant-loop-left : goal.invariant-loop-left
invariant-loop-left l = record {
  size : l.self.size ≡ l.initial.self.size;
  few : l.left ≤ length l.lits;
  set : l.self.set ≡ drop l.left l.lits ++ l.initial.self.set;
}
