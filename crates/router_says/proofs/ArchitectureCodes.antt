-- Each code of this kind has its words.
use Rattle.std.proofs.Common.{◌≡◌, true, refl}
use Rattle.code_words.specs.Codes.{is_code}
use Rattle.fpga_arch.specs.Causes.{code_of}
use Rattle.fpga_arch.specs.declared.cause.Cause.{Cause}
use Rattle.fpga_arch.specs.declared.cause.Cause.TheVariants.{MissingLine, NoNumber, PinForm, SegmentLength, NotUniform, OtherWidth, NoPattern, MixedClass, PastLimit, Repeated, SparseSegment}

pub architecture-codes_are_said : (c : Cause) → is_code (code_of c) ≡ true
architecture-codes_are_said MissingLine = refl
architecture-codes_are_said NoNumber = refl
architecture-codes_are_said PinForm = refl
architecture-codes_are_said SegmentLength = refl
architecture-codes_are_said NotUniform = refl
architecture-codes_are_said OtherWidth = refl
architecture-codes_are_said NoPattern = refl
architecture-codes_are_said MixedClass = refl
architecture-codes_are_said PastLimit = refl
architecture-codes_are_said Repeated = refl
architecture-codes_are_said SparseSegment = refl
