-- the clauses of the tracks so far
use Rattle.std.proofs.Common.{◌≡◌, ◌++◌}
use Rattle.sat_count.specs.Descending.{meanings_of}
use Rattle.sat_count.proofs.ground.Ground.push_meanings.Given as goal

abbrev pub invariant-loop-track : goal.invariant-loop-track
invariant-loop-track l =
    l.hints.items ≡ l.initial.hints.items ++ meanings_of l.self l.place l.which l.track
