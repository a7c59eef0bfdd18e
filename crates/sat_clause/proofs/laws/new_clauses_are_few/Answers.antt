use Rattle.sat_clause.proofs.LearnedFew.{learned_few}
use Rattle.sat_clause.proofs.laws.new_clauses_are_few.Goals as goal

pub returns : goal.returns
returns c = λ formula log id new numbered some sparse.
    learned_few formula log id new numbered some sparse
