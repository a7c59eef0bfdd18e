use Rattle.route_judge.proofs.SaysLemmas.{says}
use Rattle.route_judge.proofs.laws.legal_file_says_a_routing.Goals as goal

pub returns : goal.returns
returns c = λ strict width placed found sound own legal.
    says strict width placed found sound own legal
