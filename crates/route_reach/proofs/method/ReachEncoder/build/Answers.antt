use Rattle.route_reach.proofs.RouteLemmas.{unsat-says-no_route}
use Rattle.route_reach.proofs.method.ReachEncoder.build.Goals as goal

pub returns-in_err-formula-clause-none_without_model :
    goal.returns-in_err-formula-clause-none_without_model
returns-in_err-formula-clause-none_without_model c =
    unsat-says-no_route c.args.width c.args.self.now.reach c.args.problem.now
    c.route-fits.ensures.given.route c.route-fits.ensures.fits

pub returns-clause-none_without_model : goal.returns-clause-none_without_model
returns-clause-none_without_model c =
    unsat-says-no_route c.args.width c.args.self.now.reach c.args.problem.now
    c.route-fits.ensures.given.route c.route-fits.ensures.fits
