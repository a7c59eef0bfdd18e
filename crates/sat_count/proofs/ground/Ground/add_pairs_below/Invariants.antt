-- the clauses of the lower slots so far
use Rattle.sat_count.specs.Descending.{pair_clause}
use Rattle.sat_count.specs.Rows.{AddsRows}
use Rattle.sat_count.proofs.ground.Ground.add_pairs_below.Given as goal

abbrev pub invariant-loop-lower : goal.invariant-loop-lower
invariant-loop-lower l =
    AddsRows l.initial.refutation l.refutation l.lower l.self.tracks
    (λ lower. pair_clause l.kind l.self lower l.higher)
