-- Model texts, as SAT solvers print them: comments, the line `s SATISFIABLE` or `SAT`, and the
-- literals that are true, on lines that begin with `v` or not, with a 0 behind the last one.
use Rattle.std.specs.Prelude.{ℕ, ◌+◌, ℤ, not, List, [], ◌∷◌, ◌++◌, flat_map, Option, None, Some, if◌then◌else◌}
use Rattle.std.specs.List.{list_any}
use Rattle.fpga_text.specs.declared.fault.TextFault.{TextFault}
use Rattle.fpga_text.specs.declared.fault.TextFault.TheVariants.{Bad}
use Rattle.fpga_text.specs.declared.style.Style.TheVariants.{Plain}
use Rattle.fpga_text.specs.Bytes.{Bytes}
use Rattle.fpga_text.specs.Codes.{Codes, At, End, line_fault, text_faults}
use Rattle.fpga_text.specs.FirstFault.{Faults}
use Rattle.fpga_text.specs.Words.{TextLine, Words, line_count, line_words, text_lines}
use Rattle.sat_clause.specs.declared.literal.Lit.{Lit}
use Rattle.sat_text.specs.Numbers.{is_zero, lacks_number, numbers_of}
use Rattle.model_text.specs.declared.cause.Cause.TheVariants.{NoModel, Number, BehindEnd, Variable, BothWays, NoEnd}
use Rattle.model_text.specs.Causes.{code_of}
use Rattle.model_text.specs.LineKinds.{is_denial_of, kind_of, number_words}
use Rattle.model_text.specs.Models.{gives_both, goes_on, has_strange_variable, literals_in}

-- the numbers of a line
abbrev pub model_numbers : Words → List ℤ
model_numbers words = numbers_of (number_words words)

-- the numbers of lines
abbrev pub numbers_in : List Words → List ℤ
numbers_in lines = flat_map model_numbers lines

-- the codes of the model text of so many variables, by the numbers of the lines before
abbrev pub model_codes : ℕ → Codes (List ℤ) Words
model_codes vars = record {
  context = numbers_in;
  of_line = At (code_of NoModel) (λ before words. is_denial_of (kind_of words))
      ∷ At (code_of Number) (λ before words. lacks_number (number_words words))
      ∷ At (code_of BehindEnd) (λ before words. goes_on (before ++ model_numbers words))
      ∷ At (code_of Variable)
      (λ before words. has_strange_variable vars (literals_in (before ++ model_numbers words)))
      ∷ At (code_of BothWays)
      (λ before words. gives_both (literals_in (before ++ model_numbers words))) ∷ [];
  of_end = End (code_of NoEnd) (λ numbers. not (list_any is_zero numbers)) ∷ [];
}

-- why the line with this number is refused behind these numbers
abbrev pub model_line_fault : ℕ → (before : List ℤ) → (number : ℕ) → Words → Option TextFault
model_line_fault vars before number words = line_fault (model_codes vars) before number words

-- why a line with literals is refused behind these numbers, by its words that are to be numbers
abbrev pub values_fault : ℕ → (before : List ℤ) → (number : ℕ) → Words → Option TextFault
values_fault vars before number words =
    if lacks_number words then Some (Bad number (code_of Number))
    else if goes_on (before ++ numbers_of words) then Some (Bad number (code_of BehindEnd))
    else if has_strange_variable vars (literals_in (before ++ numbers_of words))
    then Some (Bad number (code_of Variable))
    else if gives_both (literals_in (before ++ numbers_of words))
    then Some (Bad number (code_of BothWays))
    else None

-- the faults of lines behind these numbers
abbrev pub lines_faults : ℕ → (before : List ℤ) → List TextLine → Faults
lines_faults vars before [] = []
lines_faults vars before (line ∷ more) =
    model_line_fault vars before line.number line.words
    ∷ lines_faults vars (before ++ model_numbers line.words) more

-- the faults of a text; its end has the number after its last line
abbrev pub model_faults : ℕ → Bytes → Faults
model_faults vars text =
    text_faults (model_codes vars) (text_lines Plain text) (line_count text + 1)

-- the literals that a text says to be true
abbrev pub model_said : Bytes → List Lit
model_said text = literals_in (numbers_in (line_words (text_lines Plain text)))
