-- How many trees a crowd may have, as a number.
use Rattle.std.proofs.Common.{◌≡◌, refl}
use Rattle.problem_facts.specs.declared.limits.TheConstants.{CROWD_LIMIT}

pub crowds : CROWD_LIMIT ≡ 128
crowds = refl
