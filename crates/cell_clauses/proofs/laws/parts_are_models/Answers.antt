use Rattle.cell_clauses.proofs.RoutedLemmas.{parts-are-models}
use Rattle.cell_clauses.proofs.laws.parts_are_models.Goals as goal

pub returns : goal.returns
returns c = parts-are-models
