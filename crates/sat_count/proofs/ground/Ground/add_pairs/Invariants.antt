-- the clauses of the slots so far
use Rattle.sat_count.specs.Descending.{pair_clause}
use Rattle.sat_count.specs.Rows.{AddsPairs}
use Rattle.sat_count.proofs.ground.Ground.add_pairs.Given as goal

abbrev pub invariant-loop-higher : goal.invariant-loop-higher
invariant-loop-higher l =
    AddsPairs l.initial.refutation l.refutation l.higher l.self.tracks
    (pair_clause l.kind l.self)
