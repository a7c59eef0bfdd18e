use Rattle.std.proofs.Common.{◌≡◌}
use Rattle.std.specs.Prelude.{IsTrue}
use Rattle.sat_clause.specs.Learned.{added_count, deletions}
use Rattle.sat_core.specs.Deletions.{AreDeletions}
use Rattle.sat_core.specs.Underway.{IsUnderway}
use Rattle.sat_core.proofs.solving.take_turns.Given as goal

-- the log is under way, and each turn so far has added a clause
abbrev pub invariant-loop : goal.invariant-loop
invariant-loop g l = record {
  underway : IsUnderway l.search l.formula.cnf l.log.steps;
  tracked : AreDeletions l.log.steps l.deletions;
  kept : IsTrue l.keep → deletions l.log.steps ≡ 0;
  many : added_count l.log.steps ≡ l.counter;
}
