use Rattle.route_encode.proofs.strict.add_clauses.Goals as goal

pub add_joined_tracks-requires-clause-meet : goal.add_joined_tracks-requires-clause-meet
add_joined_tracks-requires-clause-meet c =
    rw (c.new-graph.ensures, c.route.ensures.value, c.slots.ensures.value) c.steps.ensures.meet
