-- The codes of the causes for which a line is refused.
use Rattle.std.specs.Prelude.{ℕ}
use Rattle.model_text.specs.declared.cause.Cause.{Cause}
use Rattle.model_text.specs.declared.cause.Cause.TheVariants.{NoModel, Number, BehindEnd, Variable, BothWays, NoEnd}

-- the number that a report gives
abbrev pub code_of : Cause → ℕ
code_of NoModel = 1001
code_of Number = 1002
code_of BehindEnd = 1003
code_of Variable = 1004
code_of BothWays = 1005
code_of NoEnd = 1006
