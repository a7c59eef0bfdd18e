use Rattle.problem_facts.proofs.TrackLaws.{one_track}
use Rattle.problem_facts.proofs.laws.trees_have_one_track.Goals as goal

pub returns : goal.returns
returns c = one_track
