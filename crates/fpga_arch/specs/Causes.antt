-- The codes of what can be wrong with an architecture text.
use Rattle.std.specs.Prelude.{ℕ}
use Rattle.fpga_arch.specs.declared.cause.Cause.{Cause}
use Rattle.fpga_arch.specs.declared.cause.Cause.TheVariants.{MissingLine, NoNumber, PinForm, SegmentLength, NotUniform, OtherWidth, NoPattern, MixedClass, PastLimit, Repeated, SparseSegment}

-- the code of a cause
abbrev pub code_of : Cause → ℕ
code_of MissingLine = 101
code_of NoNumber = 102
code_of PinForm = 103
code_of SegmentLength = 104
code_of NotUniform = 105
code_of OtherWidth = 106
code_of NoPattern = 107
code_of MixedClass = 108
code_of PastLimit = 109
code_of Repeated = 110
code_of SparseSegment = 111
