-- Each code of this kind has its words.
use Rattle.std.proofs.Common.{◌≡◌, true, refl}
use Rattle.code_words.specs.Codes.{is_code}
use Rattle.fpga_route.specs.Causes.{code_of}
use Rattle.fpga_route.specs.declared.cause.Cause.{Cause}
use Rattle.fpga_route.specs.declared.cause.Cause.TheVariants.{HeadForm, LineForm, NoNumber, SpannedChannel, StrayElement, NoPlace, PastLimit}

pub route-codes_are_said : (c : Cause) → is_code (code_of c) ≡ true
route-codes_are_said HeadForm = refl
route-codes_are_said LineForm = refl
route-codes_are_said NoNumber = refl
route-codes_are_said SpannedChannel = refl
route-codes_are_said StrayElement = refl
route-codes_are_said NoPlace = refl
route-codes_are_said PastLimit = refl
