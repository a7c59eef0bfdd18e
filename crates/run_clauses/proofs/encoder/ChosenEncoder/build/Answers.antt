use Rattle.run_clauses.proofs.encoder.ChosenEncoder.build.Goals as goal

pub returns-in-Strictly-clause-none_without_model :
    goal.returns-in-Strictly-clause-none_without_model
returns-in-Strictly-clause-none_without_model c =
    rw c.in-Strictly.is c.build.ensures.none_without_model

pub returns-in-Pinned-clause-none_without_model : goal.returns-in-Pinned-clause-none_without_model
returns-in-Pinned-clause-none_without_model c =
    rw c.in-Pinned.is c.build-in-Pinned.ensures.none_without_model

pub returns-in-Ordered-clause-none_without_model :
    goal.returns-in-Ordered-clause-none_without_model
returns-in-Ordered-clause-none_without_model c =
    rw c.in-Ordered.is c.build-in-Ordered.ensures.none_without_model
