use Rattle.cell_clauses.proofs.RoutedLemmas.{few-held}
use Rattle.cell_clauses.proofs.laws.few_nets_held.Goals as goal

pub returns : goal.returns
returns c = few-held
