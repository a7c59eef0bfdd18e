-- The clauses of a log that reads have literals, which are not zero.
use Rattle.std.proofs.Common.{◌≡◌, ℕ, ◌+◌, ℤ, Bool, false, true, List, [], ◌∷◌, Option, None, Some, refl, sym, subst, ◌∙◌, arith}
use Rattle.std.specs.Prelude.{⊤, All, map, nat_abs, nat_le, ◌&&◌, if◌then◌else◌, option_map}
use Rattle.std.specs.List.{list_any, slice_split, onto_first, cons_option}
use Rattle.std.proofs.lemmas.List.Elements.{All-cons, All-map, All-nil, All-tail}
use Rattle.fpga_text.specs.declared.fault.TextFault.{TextFault}
use Rattle.fpga_text.specs.declared.fault.TextFault.TheVariants.{Bad, Limit}
use Rattle.fpga_text.specs.Bytes.{Bytes}
use Rattle.fpga_text.specs.FirstFault.{IsFaultless}
use Rattle.fpga_text.specs.Words.{TextLine, line_count, line_words}
use Rattle.fpga_text.proofs.FaultLemmas.{faultless-line}
use Rattle.sat_clause.specs.Literal.{IsLiteral, lit}
use Rattle.sat_clause.specs.Step.{Erased, HasLiterals, HaveLiterals, Step}
use Rattle.sat_text.specs.ByNumbers.{step_fault, step_line_fault}
use Rattle.sat_text.specs.CnfText.{but_last}
use Rattle.sat_text.specs.LratText.{added_by, added_limit, bars, due_words, ends_with_zero, faults_above, full_lrat_faults, has_no_id, is_below_zero, is_deletion, lrat_said, raised, said_step, step_of, steps_of}
use Rattle.sat_text.specs.Numbers.{is_zero, lacks_number, numbers_of}
use Rattle.sat_text.specs.ToldLines.{told_lines}
use Rattle.sat_text.specs.declared.hint_rule.HintRule.TheVariants.{Full}
use Rattle.sat_text.proofs.LratLemmas.{are_literals, by_numbers, lrat_faults-from}

-- there is no fault, so this one is not it
past : (b : Bool) (fault : TextFault) (rest : Option TextFault)
    → (if b then Some fault else rest) ≡ None → rest ≡ None
past true fault rest clash = absurd (let no : Some fault ≡ None = clash in cc)
past false fault rest clean = clean

within : (o : Option ℕ) → option_map (λ count. Limit 705 count) o ≡ None → None ≡ o
within None clean = refl
within (Some count) clash = absurd (let no : Some (Limit 705 count) ≡ None = clash in cc)

-- the number is not 0
abbrev IsNonzero : ℤ → Type 0
IsNonzero z = is_zero z ≡ false

-- no part of numbers that are cut at each 0 has a 0
cut_nonzero : (numbers : List ℤ) → All (All IsNonzero) (slice_split is_zero numbers)
cut_nonzero [] = All-cons (All IsNonzero) [] [] (All-nil IsNonzero) (All-nil (All IsNonzero))
cut_nonzero (n ∷ ns) = go (is_zero n) refl (slice_split is_zero ns) (cut_nonzero ns) where
  go : (b : Bool) → is_zero n ≡ b → (parts : List (List ℤ)) → All (All IsNonzero) parts
      → All (All IsNonzero) (if b then [] ∷ parts else onto_first n parts)
  go true e parts later = All-cons (All IsNonzero) [] parts (All-nil IsNonzero) later
  go false e [] later =
      All-cons (All IsNonzero) (n ∷ []) [] (All-cons IsNonzero n [] e (All-nil IsNonzero)) later
  go false e (part ∷ parts) later =
      All-cons (All IsNonzero) (n ∷ part) parts
      (All-cons IsNonzero n part e (later 0 part (omega arith)))
      (All-tail (All IsNonzero) part parts later)

-- where a line says a step, the step has literals
abbrev SaysLiterals : Option Step → Type 0
SaysLiterals None = ⊤
SaysLiterals (Some step) = HasLiterals step

added_literals : (above n : ℕ) (id : ℤ) (parts : List (List ℤ)) → All (All IsNonzero) parts
    → step_fault Full above n (added_by id parts) ≡ None → SaysLiterals (added_by id parts)
added_literals above n id [] some clean = tt
added_literals above n id (lits ∷ []) some clean = tt
added_literals above n id (lits ∷ hints ∷ []) some clean = tt
added_literals above n id (lits ∷ hints ∷ (x ∷ xs) ∷ parts) some clean = tt
added_literals above n id (lits ∷ hints ∷ [] ∷ part ∷ parts) some clean = tt
added_literals above n id (lits ∷ hints ∷ [] ∷ []) some clean =
    let behind_id = past (nat_le (nat_abs id) above) (Bad n 703) _ clean in
    let behind_sign = past (list_any is_below_zero hints && bars Full (map lit lits)) (Bad n 704) _
    behind_id in
    All-map IsLiteral lit lits (are_literals (nat_abs id) lits hints (some 0 [] (omega arith))
    (within (added_limit (nat_abs id) (map lit lits) hints) behind_sign))

numbers_literals : (above n : ℕ) (deletes : Bool) (numbers : List ℤ)
    → step_fault Full above n (step_of deletes numbers) ≡ None
    → SaysLiterals (step_of deletes numbers)
numbers_literals above n true [] clean = tt
numbers_literals above n false [] clean = tt
numbers_literals above n true (id ∷ more) clean = go (ends_with_zero more) where
  go : (b : Bool) → SaysLiterals (if b then Some (Erased (nat_abs id) (but_last more)) else None)
  go true = tt
  go false = tt
numbers_literals above n false (id ∷ more) clean =
    added_literals above n id (slice_split is_zero more) (cut_nonzero more) clean

line_literals : (above : ℕ) (line : TextLine) → step_line_fault Full above line ≡ None
    → SaysLiterals (said_step line.words)
line_literals above line clean =
    let number = past (lacks_number (due_words line.words)) (Bad line.number 701) _
    (sym (by_numbers Full above line.number line.words) ∙ clean) in
    let ids = past (has_no_id (is_deletion line.words) (numbers_of (due_words line.words)))
    (Bad line.number 701) _ number in
    numbers_literals above line.number (is_deletion line.words)
    (numbers_of (due_words line.words)) ids

lines_literals : (above end : ℕ) (lines : List TextLine)
    → IsFaultless (faults_above Full above lines end) → HaveLiterals (steps_of (line_words lines))
lines_literals above end [] clean = tt
lines_literals above end (line ∷ more) clean =
    let parts = faultless-line (step_line_fault Full above line)
    (faults_above Full (raised above (said_step line.words)) more end) clean in
    go (said_step line.words) (line_literals above line parts.0)
    (lines_literals (raised above (said_step line.words)) end more parts.1)
  where
    go : (o : Option Step) → SaysLiterals o → HaveLiterals (steps_of (line_words more))
        → HaveLiterals (cons_option o (steps_of (line_words more)))
    go None here later = later
    go (Some step) here later = (here, later)

pub log_literals : (inputs : ℕ) (text : Bytes) → IsFaultless (full_lrat_faults inputs text)
    → HaveLiterals (lrat_said text)
log_literals inputs text clean =
    lines_literals inputs (line_count text + 1) (told_lines text)
    (subst IsFaultless (lrat_faults-from Full inputs text) clean)
