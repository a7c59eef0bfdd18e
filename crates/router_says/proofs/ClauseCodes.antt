-- Each code of this kind has its words.
use Rattle.std.proofs.Common.{◌≡◌, true, refl}
use Rattle.code_words.specs.Codes.{is_code}
use Rattle.sat_text.specs.Causes.{code_of}
use Rattle.sat_text.specs.declared.cause.Cause.{Cause}
use Rattle.sat_text.specs.declared.cause.Cause.TheVariants.{HeadForm, CnfNumber, Variable, ClauseCount, SizeLimit, StepNumber, StepForm, IdOrder, HintSign, NumberLimit}

pub proof-codes_are_said : (c : Cause) → is_code (code_of c) ≡ true
proof-codes_are_said HeadForm = refl
proof-codes_are_said CnfNumber = refl
proof-codes_are_said Variable = refl
proof-codes_are_said ClauseCount = refl
proof-codes_are_said SizeLimit = refl
proof-codes_are_said StepNumber = refl
proof-codes_are_said StepForm = refl
proof-codes_are_said IdOrder = refl
proof-codes_are_said HintSign = refl
proof-codes_are_said NumberLimit = refl
