-- the clauses of the slots so far
use Rattle.sat_count.specs.Rows.{AddsRow}
use Rattle.route_count.specs.Firsts.{some_of}
use Rattle.route_count.proofs.first_level.Beginning.add_some_tracks.Given as goal

abbrev pub invariant-loop-place : goal.invariant-loop-place
invariant-loop-place l = AddsRow l.initial.refutation l.refutation l.place
    (some_of l.self.variables.width l.self.row.now)
