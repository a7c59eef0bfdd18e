use Rattle.route_gen.proofs.FittingLemmas.{first-fits, texts-fit, texts-read}
use Rattle.route_gen.proofs.laws.fits_but_for_slots.Goals as goal

pub returns-clause-read : goal.returns-clause-read
returns-clause-read c = texts-read

pub returns-clause-fits : goal.returns-clause-fits
returns-clause-fits c = texts-fit

pub returns-clause-first : goal.returns-clause-first
returns-clause-first c = first-fits
