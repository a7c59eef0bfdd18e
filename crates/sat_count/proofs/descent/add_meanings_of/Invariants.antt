-- the variables of the tracks so far
use Rattle.sat_count.specs.Descending.{given_at, kept_at, moved_at}
use Rattle.sat_count.specs.Rows.{DefinesRow}
use Rattle.sat_count.proofs.descent.add_meanings_of.Given as goal

abbrev pub invariant-loop-track : goal.invariant-loop-track
invariant-loop-track l =
    DefinesRow l.initial.refutation l.refutation l.track (kept_at l.above l.place)
    (moved_at l.above l.tracks l.place) (given_at l.above l.tracks l.place)
