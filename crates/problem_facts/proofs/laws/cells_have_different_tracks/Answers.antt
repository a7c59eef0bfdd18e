use Rattle.problem_facts.proofs.TrackLaws.{cell_differs}
use Rattle.problem_facts.proofs.laws.cells_have_different_tracks.Goals as goal

pub returns : goal.returns
returns c = cell_differs
