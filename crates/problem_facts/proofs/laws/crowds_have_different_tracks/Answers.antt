use Rattle.problem_facts.proofs.TrackLaws.{crowd_differs}
use Rattle.problem_facts.proofs.laws.crowds_have_different_tracks.Goals as goal

pub returns : goal.returns
returns c = crowd_differs
