use Rattle.std.proofs.Common.{◌≡◌, [], length}
use Rattle.sat_clause.specs.Live.{Live}
use Rattle.sat_check.specs.Finder.{Finds}
use Rattle.sat_check.specs.LiveStore.{live_at}
use Rattle.sat_rat.specs.Counts.{held}
use Rattle.sat_rat.specs.FullRup.{groups_fault}
use Rattle.sat_rat.specs.Groups.{groups_of}
use Rattle.sat_rat.proofs.resolution.take_groups.Given as goal

abbrev pub decreases-loop-group : goal.decreases-loop-group
decreases-loop-group l = length l.rest

-- the groups that are left have the fault that all have, and the literal is counted in the live
-- clauses that had none
abbrev pub invariant-loop-group : goal.invariant-loop-group
invariant-loop-group l = record {
  size : l.upper.size ≡ l.initial.upper.size;
  empty : l.upper.set ≡ [];
  left : (clauses : Live) → Finds (live_at l.live) clauses →
      groups_fault clauses l.lower.set l.l l.had (groups_of l.rest)
      ≡ groups_fault clauses l.lower.set l.l [] (groups_of l.hints);
  count : (clauses : Live) → Finds (live_at l.live) clauses → l.count ≡ held l.l [] clauses →
      l.left ≡ held l.l l.had clauses;
}
