-- LRAT texts: comments, and lines that add a clause or delete clauses. A rule says which hints an
-- added clause may have: with plain ones no step resolves on a first literal.
use Rattle.std.specs.Prelude.{◌≡◌, ℕ, ◌+◌, drop, fold, is_none, max, nat_lt, nat_le, nat_abs, ℤ, pos, int_le, int_lt, Bool, true, false, ◌&&◌, ◌||◌, if◌then◌else◌, List, [], ◌∷◌, map, find, filter_map, bytes_eq, codes, Option, None, Some}
use Rattle.std.specs.List.{list_any, slice_split}
use Rattle.std.specs.Option.{option_or}
use Rattle.fpga_text.specs.Bytes.{Bytes}
use Rattle.fpga_text.specs.Words.{TextLine, Words, line_count, line_words}
use Rattle.fpga_text.specs.Codes.{Codes, At, Past, faults_from, numbered_words, text_faults}
use Rattle.fpga_text.specs.FirstFault.{Faults, IsFaultless}
use Rattle.sat_clause.specs.declared.limits.TheConstants.{ID_LIMIT, VARIABLE_LIMIT}
use Rattle.sat_clause.specs.Literal.{Clause, lit}
use Rattle.sat_clause.specs.Step.{Step, Added, Erased}
use Rattle.sat_text.specs.CnfText.{but_last}
use Rattle.sat_text.specs.declared.cause.Cause.TheVariants.{StepNumber, StepForm, IdOrder, HintSign, NumberLimit}
use Rattle.sat_text.specs.declared.hint_rule.HintRule.{HintRule}
use Rattle.sat_text.specs.declared.hint_rule.HintRule.TheVariants.{Plain, Full}
use Rattle.sat_text.specs.Causes.{code_of}
use Rattle.sat_text.specs.Numbers.{lacks_number, numbers_of, is_zero}
use Rattle.sat_text.specs.ToldLines.{told_lines}

-- the first word is `d`
abbrev pub begins_with_d : Words → Bool
begins_with_d [] = false
begins_with_d (word ∷ more) = bytes_eq word (codes "d")

-- the second word is `d`
abbrev pub is_deletion : Words → Bool
is_deletion [] = false
is_deletion (id ∷ more) = begins_with_d more

-- the words where a number is due: all but the `d` of a deletion
abbrev pub due_words : Words → Words
due_words [] = []
due_words (id ∷ more) = id ∷ (if begins_with_d more then drop 1 more else more)

-- the last number is a 0
abbrev pub ends_with_zero : List ℤ → Bool
ends_with_zero [] = false
ends_with_zero (n ∷ []) = is_zero n
ends_with_zero (n ∷ m ∷ more) = ends_with_zero (m ∷ more)

-- the ids of a deletion: the numbers without the 0 that closes the line
abbrev pub deleted_ids : List ℤ → List ℤ
deleted_ids numbers = if ends_with_zero numbers then but_last numbers else numbers

-- the number is negative or 0
abbrev pub is_not_positive : ℤ → Bool
is_not_positive n = int_le n (pos 0)

-- the number is negative
abbrev pub is_below_zero : ℤ → Bool
is_below_zero n = int_lt n (pos 0)

-- the first number of a line, or one that a deletion deletes, is negative or 0
abbrev pub has_no_id : Bool → List ℤ → Bool
has_no_id deletes [] = false
has_no_id deletes (id ∷ more) =
    is_not_positive id || deletes && list_any is_not_positive (deleted_ids more)

-- literals, hints, and nothing behind the second 0: the numbers behind an id, cut at each 0
abbrev pub added_by : ℤ → List (List ℤ) → Option Step
added_by id (lits ∷ hints ∷ [] ∷ []) = Some (Added (nat_abs id) (map lit lits) hints)
added_by id parts = None

-- the step that numbers say which have the form `id lits 0 hints 0`
abbrev pub added_step : List ℤ → Option Step
added_step [] = None
added_step (id ∷ more) = added_by id (slice_split is_zero more)

-- the step that the numbers of a deletion say, which have the form `id ids 0`
abbrev pub erased_step : List ℤ → Option Step
erased_step [] = None
erased_step (id ∷ more) =
    if ends_with_zero more then Some (Erased (nat_abs id) (but_last more)) else None

-- the step that the numbers of a line say
abbrev pub step_of : Bool → List ℤ → Option Step
step_of true numbers = erased_step numbers
step_of false numbers = added_step numbers

-- the first size that is past the limit
abbrev pub first_past : ℕ → List ℤ → Option ℕ
first_past most numbers = find (λ size. nat_lt most size) (map nat_abs numbers)

-- of an added clause the first that is past its limit: the id, a literal, a hint
abbrev pub added_limit : ℕ → Clause → List ℤ → Option ℕ
added_limit id clause hints =
    option_or (first_past ID_LIMIT (pos id ∷ []))
    (option_or (first_past VARIABLE_LIMIT (map (λ l. l.code) clause)) (first_past ID_LIMIT hints))

-- of a deletion the first id that is past its limit
abbrev pub erased_limit : ℕ → List ℤ → Option ℕ
erased_limit id ids = first_past ID_LIMIT (pos id ∷ ids)

-- the step that a line says
abbrev pub said_step : Words → Option Step
said_step words = step_of (is_deletion words) (numbers_of (due_words words))

-- the greatest of this number and the id of an added clause
abbrev pub raised : ℕ → Option Step → ℕ
raised above None = above
raised above (Some (Added id clause hints)) = max above id
raised above (Some (Erased id ids)) = above

-- the same of the step that a line says
abbrev pub raised_by : ℕ → Words → ℕ
raised_by above words = raised above (said_step words)

-- a number is due and is none, or an id is negative or 0
abbrev pub lacks_step_number : ℕ → Words → Bool
lacks_step_number above words =
    lacks_number (due_words words) || has_no_id (is_deletion words) (numbers_of (due_words words))

-- the line has the form neither of an added clause nor of a deletion
abbrev pub lacks_step_form : ℕ → Words → Bool
lacks_step_form above words = is_none (said_step words)

-- the step adds a clause whose id is not above this number
abbrev pub is_out_of_order : ℕ → Option Step → Bool
is_out_of_order above (Some (Added id clause hints)) = nat_le id above
is_out_of_order above step = false

-- the clause may have no negative hint
abbrev pub bars : HintRule → Clause → Bool
bars Plain clause = true
bars Full [] = true
bars Full (l ∷ ls) = false

-- the step adds a clause with a negative hint that it may not have
abbrev pub has_barred_hint : HintRule → Option Step → Bool
has_barred_hint rule (Some (Added id clause hints)) =
    list_any is_below_zero hints && bars rule clause
has_barred_hint rule step = false

-- of a step the first number that is past its limit
abbrev pub past_number_limit : Option Step → Option ℕ
past_number_limit None = None
past_number_limit (Some (Added id clause hints)) = added_limit id clause hints
past_number_limit (Some (Erased id ids)) = erased_limit id ids

-- the codes of an LRAT text that goes with so many input clauses; the id of an added clause has to
-- be above this number and all earlier ones
abbrev pub lrat_codes_by : HintRule → ℕ → Codes ℕ Words
lrat_codes_by rule inputs = record {
  context = λ before. fold raised_by inputs before;
  of_line = At (code_of StepNumber) lacks_step_number ∷ At (code_of StepForm) lacks_step_form
      ∷ At (code_of IdOrder) (λ above words. is_out_of_order above (said_step words))
      ∷ At (code_of HintSign) (λ above words. has_barred_hint rule (said_step words))
      ∷ Past (code_of NumberLimit) (λ above words. past_number_limit (said_step words)) ∷ [];
  of_end = [];
}

-- the faults of a text that goes with so many input clauses
abbrev pub lrat_faults_by : HintRule → ℕ → Bytes → Faults
lrat_faults_by rule inputs text =
    text_faults (lrat_codes_by rule inputs) (told_lines text) (line_count text + 1)

-- the same where no hint may be negative
abbrev pub lrat_faults : ℕ → Bytes → Faults
lrat_faults = lrat_faults_by Plain

-- and where hints of clauses with literals may be
abbrev pub full_lrat_faults : ℕ → Bytes → Faults
full_lrat_faults = lrat_faults_by Full

-- the faults of lines behind ids up to this one, and of the end, which has this number
abbrev pub faults_above : HintRule → ℕ → List TextLine → ℕ → Faults
faults_above rule above lines end =
    faults_from raised_by (lrat_codes_by rule 0) above (numbered_words lines) end

-- the steps that lines with these words say
abbrev pub steps_of : List Words → List Step
steps_of lines = filter_map said_step lines

-- the steps that a text says
abbrev pub lrat_said : Bytes → List Step
lrat_said text = steps_of (line_words (told_lines text))

-- the text has no fault, and says these steps
pub record ReadsLrat (inputs : ℕ) (text : Bytes) (log : List Step) : Type 0 where
  pub faultless : IsFaultless (lrat_faults inputs text)
  pub steps : log ≡ lrat_said text
