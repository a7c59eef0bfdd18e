use Rattle.cell_clauses.proofs.RoutedLemmas.{routings-are-models}
use Rattle.cell_clauses.proofs.laws.routings_are_models.Goals as goal

pub returns : goal.returns
returns c = routings-are-models
