use Rattle.route_ways.proofs.plain.Plain.solve_limited.Goals as goal

pub returns-clause-limited : goal.returns-clause-limited
returns-clause-limited g c is = absurd (c.in-Ok.ensures.stopped is)

pub returns-clause-stopped : goal.returns-clause-stopped
returns-clause-stopped g c is = absurd (c.in-Ok.ensures.stopped is)
