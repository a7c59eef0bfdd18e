use Rattle.std.proofs.Common.{◌≡◌, ◌+◌, []}
use Rattle.sat_clause.specs.declared.literal.Lit.{Lit}
use Rattle.sat_clause.specs.Live.{Live}
use Rattle.sat_check.specs.Finder.{Finds}
use Rattle.sat_check.specs.LiveStore.{live_at}
use Rattle.sat_rat.specs.Counts.{count_at, held, ids_to}
use Rattle.sat_rat.proofs.counted_clauses.count_placed.Given as goal

-- what stands under the ids so far is counted
abbrev pub invariant-loop-i : goal.invariant-loop-i
invariant-loop-i l = (clauses : Live) → Finds (live_at l.live) clauses → (m : Lit) →
    count_at l.counts m + held m (ids_to l.i) clauses
    ≡ count_at l.initial.counts m + held m [] clauses
