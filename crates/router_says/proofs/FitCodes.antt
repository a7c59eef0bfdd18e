-- Each code of this kind has its words.
use Rattle.std.proofs.Common.{◌≡◌, true, refl}
use Rattle.code_words.specs.Codes.{is_code}
use Rattle.fpga_types.specs.FitCauses.{code_of}
use Rattle.fpga_types.specs.declared.fit_cause.FitCause.{FitCause}
use Rattle.fpga_types.specs.declared.fit_cause.FitCause.TheVariants.{OtherArray, MissingNet, UnknownNet, RepeatedNet, OtherSource, OtherSink, SinkNotOnce, OtherPin, PinApart, CellsApart, RepeatedElement, LooseBranch, SharedPin, OutOfOrder, PastLimit}

pub fit-codes_are_said : (c : FitCause) → is_code (code_of c) ≡ true
fit-codes_are_said OtherArray = refl
fit-codes_are_said MissingNet = refl
fit-codes_are_said UnknownNet = refl
fit-codes_are_said RepeatedNet = refl
fit-codes_are_said OtherSource = refl
fit-codes_are_said OtherSink = refl
fit-codes_are_said SinkNotOnce = refl
fit-codes_are_said OtherPin = refl
fit-codes_are_said PinApart = refl
fit-codes_are_said CellsApart = refl
fit-codes_are_said RepeatedElement = refl
fit-codes_are_said LooseBranch = refl
fit-codes_are_said SharedPin = refl
fit-codes_are_said OutOfOrder = refl
fit-codes_are_said PastLimit = refl
