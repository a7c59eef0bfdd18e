-- the clauses of the tracks so far
use Rattle.sat_count.specs.Rows.{AddsRow}
use Rattle.route_count.specs.Firsts.{apart_of}
use Rattle.route_count.proofs.first_level.Beginning.add_pairs_of.Given as goal

abbrev pub invariant-loop-track : goal.invariant-loop-track
invariant-loop-track l = AddsRow l.initial.refutation l.refutation l.track
    (apart_of l.self.variables.width l.self.row.now l.lower l.higher)
