-- the clauses of the slots so far
use Rattle.sat_count.specs.Rows.{AddsPairs}
use Rattle.route_count.specs.Firsts.{apart_of}
use Rattle.route_count.proofs.first_level.Beginning.add_pairs.Given as goal

abbrev pub invariant-loop-higher : goal.invariant-loop-higher
invariant-loop-higher l = AddsPairs l.initial.refutation l.refutation l.higher
    l.self.variables.width (apart_of l.self.variables.width l.self.row.now)
