-- The codes of what can be wrong with a route text.
use Rattle.std.specs.Prelude.{ℕ}
use Rattle.fpga_route.specs.declared.cause.Cause.{Cause}
use Rattle.fpga_route.specs.declared.cause.Cause.TheVariants.{HeadForm, LineForm, NoNumber, SpannedChannel, StrayElement, NoPlace, PastLimit}

-- the code of a cause
abbrev pub code_of : Cause → ℕ
code_of HeadForm = 401
code_of LineForm = 402
code_of NoNumber = 403
code_of SpannedChannel = 404
code_of StrayElement = 405
code_of NoPlace = 406
code_of PastLimit = 407
