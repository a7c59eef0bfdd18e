use Rattle.std.proofs.Common.{◌≡◌, ◌≤◌}
use Rattle.run_stats.specs.Sizes.{used_before}
use Rattle.run_stats.proofs.sizes.tracks_used.Given as goal

-- the tracks so far
abbrev pub invariant-loop-track : goal.invariant-loop-track
invariant-loop-track l = record {
  many : l.count ≡ used_before l.nets l.track;
  few : l.count ≤ l.track;
}
