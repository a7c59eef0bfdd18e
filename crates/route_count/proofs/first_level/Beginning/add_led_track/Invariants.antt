-- the clauses of the tracks so far
use Rattle.sat_count.specs.Rows.{AddsRow}
use Rattle.problem_facts.specs.Leads.{root_at}
use Rattle.route_count.specs.Said.{led_clause}
use Rattle.route_count.proofs.first_level.Beginning.add_led_track.Given as goal

abbrev pub invariant-loop-track : goal.invariant-loop-track
invariant-loop-track l = AddsRow l.initial.refutation l.refutation l.track
    (led_clause l.self.variables.width (root_at l.self.trees.now l.slot) l.slot)
