-- Whose turn it is, row by row, by numbers that are drawn from a seed.
use Rattle.std.proofs.Common.{◌≡◌, refl}
use Rattle.sat_turns.specs.declared.schedule.Schedule.TheVariants.{Drawn}
use Rattle.sat_turns.specs.Schedule.{member_of}

pub first : member_of (Drawn 3 7) 0 ≡ 1
first = refl

pub second : member_of (Drawn 3 7) 1 ≡ 2
second = refl

pub third : member_of (Drawn 3 7) 2 ≡ 2
third = refl

pub fourth : member_of (Drawn 3 7) 3 ≡ 0
fourth = refl
