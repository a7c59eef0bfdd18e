-- the tracks so far
use Rattle.std.proofs.Common.{◌≡◌, ◌*◌}
use Rattle.sat_count.specs.Places.{some_clause}
use Rattle.route_count.proofs.first_level.Beginning.some_track.Given as goal

abbrev pub invariant-loop-track : goal.invariant-loop-track
invariant-loop-track l =
    l.clause.items ≡ some_clause (l.slot * l.self.variables.width) l.track
