-- the variables so far
use Rattle.std.proofs.Common.{◌≡◌}
use Rattle.sat_count.specs.Places.{some_clause}
use Rattle.sat_count.proofs.descent.row.Given as goal

abbrev pub invariant-loop-at : goal.invariant-loop-at
invariant-loop-at l = l.clause.items ≡ some_clause l.first l.at
