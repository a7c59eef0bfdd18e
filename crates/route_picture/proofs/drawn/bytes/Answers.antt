use Rattle.std.proofs.Common.{refl, rules}
use Rattle.route_picture.proofs.drawn.bytes.Goals as goal

pub returns-in-Err-TooLong-clause-stop : goal.returns-in-Err-TooLong-clause-stop
returns-in-Err-TooLong-clause-stop g c = (
  refl,
  c.in-Err-TooLong.ensures.too_long (rw c.in-Err-TooLong.field-0-is refl),
  search rules,
)
