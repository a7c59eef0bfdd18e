-- Each code of this kind has its words.
use Rattle.std.proofs.Common.{◌≡◌, true, refl}
use Rattle.code_words.specs.Codes.{is_code}
use Rattle.fpga_place.specs.Causes.{code_of}
use Rattle.fpga_place.specs.declared.cause.Cause.{Cause}
use Rattle.fpga_place.specs.declared.cause.Cause.TheVariants.{HeadForm, NoNumber, UnknownBlock, RepeatedBlock, MissingBlock, UnlawfulPlace, SharedSpot, PastLimit}

pub placement-codes_are_said : (c : Cause) → is_code (code_of c) ≡ true
placement-codes_are_said HeadForm = refl
placement-codes_are_said NoNumber = refl
placement-codes_are_said UnknownBlock = refl
placement-codes_are_said RepeatedBlock = refl
placement-codes_are_said MissingBlock = refl
placement-codes_are_said UnlawfulPlace = refl
placement-codes_are_said SharedSpot = refl
placement-codes_are_said PastLimit = refl
