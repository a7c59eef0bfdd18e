use Rattle.std.proofs.Common.{◌≡◌, ◌+◌}
use Rattle.sat_clause.specs.declared.literal.Lit.{Lit}
use Rattle.sat_clause.specs.Live.{Live}
use Rattle.sat_check.specs.Finder.{Finds}
use Rattle.sat_check.specs.LiveStore.{last_placed, live_at, scattered_id}
use Rattle.sat_rat.specs.Counts.{count_at, held, ids_to, with_ids}
use Rattle.sat_rat.proofs.counted_clauses.count_scattered.Given as goal

-- what stands under the ids at the positions so far is counted
abbrev pub invariant-loop-at : goal.invariant-loop-at
invariant-loop-at l = (clauses : Live) → Finds (live_at l.live) clauses → (m : Lit) →
    count_at l.counts m
    + held m (with_ids (scattered_id l.live) l.at (ids_to (last_placed l.live))) clauses
    ≡ count_at l.initial.counts m + held m (ids_to (last_placed l.live)) clauses
