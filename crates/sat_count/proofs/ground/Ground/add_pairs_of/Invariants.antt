-- the clauses of the tracks so far
use Rattle.sat_count.specs.Descending.{pair_clause}
use Rattle.sat_count.specs.Rows.{AddsRow}
use Rattle.sat_count.proofs.ground.Ground.add_pairs_of.Given as goal

abbrev pub invariant-loop-track : goal.invariant-loop-track
invariant-loop-track l =
    AddsRow l.initial.refutation l.refutation l.track (pair_clause l.kind l.self l.lower l.higher)
