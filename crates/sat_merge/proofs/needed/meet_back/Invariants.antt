use Rattle.std.proofs.Common.{◌≡◌, ◌≤◌, drop, length}
use Rattle.sat_clause.specs.Live.{Live}
use Rattle.sat_check.specs.Finder.{Finds}
use Rattle.sat_check.specs.LiveStore.{live_at}
use Rattle.sat_merge.specs.Needed.{IsMeeting}
use Rattle.sat_merge.proofs.needed.meet_back.Given as goal

-- the hints from here on are needed, and their literals are met
abbrev pub invariant-loop-left : goal.invariant-loop-left
invariant-loop-left l = record {
  size : l.met.size ≡ l.live.vars;
  few : l.left ≤ length l.hints;
  behind : (clauses : Live) → Finds (live_at l.live) clauses →
      IsMeeting clauses l.met.set (drop l.left l.units) (drop l.left l.hints);
}

abbrev pub decreases-loop-left : goal.decreases-loop-left
decreases-loop-left l = l.left
