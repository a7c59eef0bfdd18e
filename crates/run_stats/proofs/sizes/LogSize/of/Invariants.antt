use Rattle.std.proofs.Common.{◌≡◌, ◌≤◌, take}
use Rattle.std.specs.List.{sum_by}
use Rattle.run_stats.specs.Sizes.{added_by, capped, deleted_count, hint_count}
use Rattle.run_stats.proofs.sizes.LogSize.of.Given as goal

-- the size of the steps so far
abbrev pub invariant-loop-at : goal.invariant-loop-at
invariant-loop-at l = record {
  learned : l.size.learned ≡ sum_by added_by (take l.at l.log.steps);
  few : l.size.learned ≤ l.at;
  deleted : l.size.deleted ≡ capped (deleted_count (take l.at l.log.steps));
  hints : l.size.hints ≡ capped (hint_count (take l.at l.log.steps));
}
