-- the variables of the slots so far
use Rattle.std.proofs.Common.{◌≡◌, ◌+◌, ◌*◌, ◌<◌, ℕ, length, get_or}
use Rattle.sat_count.specs.Descending.{given_at, kept_at, moved_at}
use Rattle.sat_count.specs.Rows.{DefinesRows}
use Rattle.sat_count.proofs.descent.add_meanings.Given as goal

abbrev pub invariant-loop-place : goal.invariant-loop-place
invariant-loop-place l = record {
  defined : DefinesRows l.initial.refutation l.refutation l.place l.tracks (kept_at l.above)
      (moved_at l.above l.tracks) (given_at l.above l.tracks);
  each : length l.firsts.items ≡ l.place;
  firsts : (place : ℕ) → place < l.place
      → get_or l.firsts.items place 0 ≡ l.initial.refutation.last_variable + place * l.tracks;
}
