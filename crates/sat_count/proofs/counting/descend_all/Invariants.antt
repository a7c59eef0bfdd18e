-- the level stands
use Rattle.std.proofs.Common.{◌≡◌}
use Rattle.sat_count.specs.Levels.{IsLevel}
use Rattle.sat_count.proofs.counting.descend_all.Given as goal

abbrev pub invariant-loop-level : goal.invariant-loop-level
invariant-loop-level l = record {
  stands : IsLevel l.refutation l.level;
  cnf : l.refutation.cnf ≡ l.initial.refutation.cnf;
}

abbrev pub decreases-loop-level : goal.decreases-loop-level
decreases-loop-level l = l.level.tracks
