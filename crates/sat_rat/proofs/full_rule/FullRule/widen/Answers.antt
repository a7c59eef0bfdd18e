use Rattle.sat_rat.proofs.full_rule.FullRule.widen.Goals as goal

pub returns-clause-tracks : goal.returns-clause-tracks
returns-clause-tracks c = λ clauses tracks.
    c.widen-3.ensures.tracks clauses (rw (← c.self.view_is) at tracks)
