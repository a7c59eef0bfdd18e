-- the clauses of the lower slots so far
use Rattle.sat_count.specs.Rows.{AddsRows}
use Rattle.route_count.specs.Firsts.{apart_of}
use Rattle.route_count.proofs.first_level.Beginning.add_pairs_below.Given as goal

abbrev pub invariant-loop-lower : goal.invariant-loop-lower
invariant-loop-lower l = AddsRows l.initial.refutation l.refutation l.lower
    l.self.variables.width
    (λ lower. apart_of l.self.variables.width l.self.row.now lower l.higher)
