use Rattle.route_judge.proofs.FittingFiles.{fitted, verifies}
use Rattle.route_judge.proofs.laws.strict_file_is_a_global_route.Goals as goal

pub returns-clause-verified : goal.returns-clause-verified
returns-clause-verified c = λ width placed found legal. verifies width placed found legal

pub returns-clause-fits : goal.returns-clause-fits
returns-clause-fits c = λ width placed found sound few legal.
    fitted width placed found legal sound few
