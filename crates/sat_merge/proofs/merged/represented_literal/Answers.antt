use Rattle.std.proofs.Common.{arith}
use Rattle.sat_merge.proofs.merged.represented_literal.Goals as goal

pub returns : goal.returns
returns c = λ vars many. (
  omega (arith, c.in-Some.ensures.0, c.literal_of.ensures),
  omega (arith, c.in-Some.ensures.1, c.literal_of.ensures, many),
)
