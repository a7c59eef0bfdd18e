-- How many slots are counted at the most, as a number.
use Rattle.std.proofs.Common.{◌≡◌, refl}
use Rattle.sat_count.specs.declared.limits.TheConstants.{COUNTED_LIMIT}

pub counted : COUNTED_LIMIT ≡ 65
counted = refl
