use Rattle.std.proofs.Common.{◌≤◌, length}
use Rattle.sat_core.proofs.WayBackLaws.{IsPutBack}
use Rattle.sat_core.proofs.way_back.put_back_above.Given as goal

abbrev pub decreases-loop-left : goal.decreases-loop-left
decreases-loop-left l = l.left

-- the variables of the newer entries are held
abbrev pub invariant-loop-left : goal.invariant-loop-left
invariant-loop-left l = record {
  back : IsPutBack l.watches l.left l.ranking;
  within : l.left ≤ length l.trail;
}
