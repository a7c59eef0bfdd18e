-- The codes of what can be wrong with a placement text.
use Rattle.std.specs.Prelude.{ℕ}
use Rattle.fpga_place.specs.declared.cause.Cause.{Cause}
use Rattle.fpga_place.specs.declared.cause.Cause.TheVariants.{HeadForm, NoNumber, UnknownBlock, RepeatedBlock, MissingBlock, UnlawfulPlace, SharedSpot, PastLimit}

-- the code of a cause
abbrev pub code_of : Cause → ℕ
code_of HeadForm = 301
code_of NoNumber = 302
code_of UnknownBlock = 303
code_of RepeatedBlock = 304
code_of MissingBlock = 305
code_of UnlawfulPlace = 306
code_of SharedSpot = 307
code_of PastLimit = 308
