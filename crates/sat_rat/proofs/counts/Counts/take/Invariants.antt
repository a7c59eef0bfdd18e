use Rattle.std.proofs.Common.{◌≡◌, ◌+◌, ◌≤◌, take}
use Rattle.sat_clause.specs.declared.literal.Lit.{Lit}
use Rattle.sat_rat.specs.Counts.{count_at, times}
use Rattle.sat_rat.proofs.counts.Counts.take.Given as goal

-- those so far have one less each
abbrev pub invariant-loop-l : goal.invariant-loop-l
invariant-loop-l l =
    (m : Lit) → times m l.clause ≤ count_at l.initial.self-inside.counts.items m
    → count_at l.self-inside.counts.items m + times m (take l.l-index l.clause)
    ≡ count_at l.initial.self-inside.counts.items m
