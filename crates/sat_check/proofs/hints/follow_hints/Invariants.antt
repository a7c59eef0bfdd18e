use Rattle.std.proofs.Common.{◌≡◌, drop}
use Rattle.sat_clause.specs.Live.{Live}
use Rattle.sat_clause.specs.Rup.{rup}
use Rattle.sat_check.specs.LiveStore.{live_at}
use Rattle.sat_check.specs.Finder.{Finds}
use Rattle.sat_check.proofs.hints.follow_hints.Given as goal

-- the hints that are left say of the set what all hints say of the set at the start
abbrev pub invariant-loop-i : goal.invariant-loop-i
invariant-loop-i l = record {
  size : l.set.size ≡ l.initial.set.size;
  left : (clauses : Live) → Finds (live_at l.live) clauses →
      rup clauses l.set.set (drop l.i l.hints) ≡ rup clauses l.initial.set.set l.hints;
}
