use Rattle.cell_clauses.proofs.RoutedLemmas.{refuted-has-none}
use Rattle.cell_clauses.proofs.laws.refuted_has_no_routing.Goals as goal

pub returns : goal.returns
returns c = refuted-has-none
