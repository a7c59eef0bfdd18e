-- Each code of this kind has its words.
use Rattle.std.proofs.Common.{◌≡◌, true, refl}
use Rattle.code_words.specs.Codes.{is_code}
use Rattle.model_text.specs.Causes.{code_of}
use Rattle.model_text.specs.declared.cause.Cause.{Cause}
use Rattle.model_text.specs.declared.cause.Cause.TheVariants.{NoModel, Number, BehindEnd, Variable, BothWays, NoEnd}

pub model-codes_are_said : (c : Cause) → is_code (code_of c) ≡ true
model-codes_are_said NoModel = refl
model-codes_are_said Number = refl
model-codes_are_said BehindEnd = refl
model-codes_are_said Variable = refl
model-codes_are_said BothWays = refl
model-codes_are_said NoEnd = refl
