-- The codes of the causes for which a line is refused.
use Rattle.std.specs.Prelude.{ℕ}
use Rattle.sat_text.specs.declared.cause.Cause.{Cause}
use Rattle.sat_text.specs.declared.cause.Cause.TheVariants.{HeadForm, CnfNumber, Variable, ClauseCount, SizeLimit, StepNumber, StepForm, IdOrder, HintSign, NumberLimit}

-- the number that a report gives
abbrev pub code_of : Cause → ℕ
code_of HeadForm = 601
code_of CnfNumber = 602
code_of Variable = 603
code_of ClauseCount = 604
code_of SizeLimit = 605
code_of StepNumber = 701
code_of StepForm = 702
code_of IdOrder = 703
code_of HintSign = 704
code_of NumberLimit = 705
