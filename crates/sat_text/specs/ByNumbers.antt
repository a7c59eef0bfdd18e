-- Why a line of an LRAT text is refused, by its numbers.
use Rattle.std.specs.Prelude.{ℕ, ℤ, Bool, ◌&&◌, nat_le, List, Option, None, Some, option_map, if◌then◌else◌}
use Rattle.std.specs.List.{list_any}
use Rattle.fpga_text.specs.declared.fault.TextFault.{TextFault}
use Rattle.fpga_text.specs.declared.fault.TextFault.TheVariants.{Bad, Limit}
use Rattle.fpga_text.specs.Codes.{line_fault}
use Rattle.fpga_text.specs.Words.{TextLine}
use Rattle.sat_clause.specs.Step.{Step, Added, Erased}
use Rattle.sat_text.specs.declared.cause.Cause.TheVariants.{StepNumber, StepForm, IdOrder, HintSign, NumberLimit}
use Rattle.sat_text.specs.declared.hint_rule.HintRule.{HintRule}
use Rattle.sat_text.specs.Causes.{code_of}
use Rattle.sat_text.specs.LratText.{added_limit, bars, erased_limit, has_no_id, is_below_zero, lrat_codes_by, step_of}

-- why a line is refused behind ids up to this one
abbrev pub step_line_fault : HintRule → ℕ → TextLine → Option TextFault
step_line_fault rule above line = line_fault (lrat_codes_by rule 0) above line.number line.words

-- why a step is refused
abbrev pub step_fault : HintRule → ℕ → ℕ → Option Step → Option TextFault
step_fault rule above line None = Some (Bad line (code_of StepForm))
step_fault rule above line (Some (Added id clause hints)) =
    if nat_le id above then Some (Bad line (code_of IdOrder))
    else if list_any is_below_zero hints && bars rule clause then Some (Bad line (code_of HintSign))
    else option_map (λ count. Limit (code_of NumberLimit) count) (added_limit id clause hints)
step_fault rule above line (Some (Erased id ids)) =
    option_map (λ count. Limit (code_of NumberLimit) count) (erased_limit id ids)

-- why a line with these numbers is refused
abbrev pub numbers_fault : HintRule → ℕ → ℕ → Bool → List ℤ → Option TextFault
numbers_fault rule above line deletes numbers =
    if has_no_id deletes numbers then Some (Bad line (code_of StepNumber))
    else step_fault rule above line (step_of deletes numbers)
