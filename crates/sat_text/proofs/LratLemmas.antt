-- The numbers of a line of an LRAT text, and the step that they say.
use Rattle.std.proofs.Common.{◌≡◌, ◌<◌, ◌≤◌, ◌+◌, ℕ, zero, suc, ℤ, pos, negsuc, Bool, false, true, List, [], ◌∷◌, ◌++◌, length, take, drop, Option, None, Some, Result, refl, sym, ap, subst, ◌∙◌, arith, add-one}
use Rattle.std.specs.Prelude.{All, fold, map, nat_abs, slice_index_or, if◌then◌else◌, nat_le, nat_lt, ◌==◌, ◌||◌, ◌&&◌, is_none, option_map}
use Rattle.std.specs.List.{list_any, slice_split, onto_first, cons_option}
use Rattle.std.proofs.lemmas.List.Splits.{slice_split_at, slice_split_none, length-slice_split}
use Rattle.std.specs.Option.{option_or}
use Rattle.fpga_text.specs.declared.fault.TextFault.{TextFault}
use Rattle.fpga_text.specs.declared.fault.TextFault.TheVariants.{Bad, Limit}
use Rattle.fpga_text.specs.Bytes.{Bytes}
use Rattle.fpga_text.specs.FirstFault.{AnswersFault, Faults}
use Rattle.fpga_text.specs.Codes.{line_fault, numbered_words}
use Rattle.fpga_text.specs.Words.{TextLine, Words, line_count, line_words}
use Rattle.fpga_text.proofs.CodeLemmas.{faults_behind-from}
use Rattle.fpga_text.proofs.FaultLemmas.{IsPast, past-line}
use Rattle.sat_clause.specs.declared.literal.Lit.{Lit}
use Rattle.sat_clause.specs.Literal.{lit, IsLiteral}
use Rattle.sat_clause.specs.Step.{Step, Added, Erased}
use Rattle.sat_text.specs.ByNumbers.{numbers_fault, step_fault, step_line_fault}
use Rattle.sat_text.specs.declared.hint_rule.HintRule.{HintRule}
use Rattle.sat_text.specs.CnfText.{but_last}
use Rattle.sat_text.specs.Numbers.{is_zero, numbers_of, lacks_number}
use Rattle.sat_text.specs.ToldLines.{told_lines}
use Rattle.sat_text.specs.LratText.{added_by, added_limit, deleted_ids, due_words, ends_with_zero, erased_limit, bars, faults_above, first_past, has_barred_hint, has_no_id, is_below_zero, is_deletion, is_out_of_order, lrat_codes_by, lrat_faults_by, past_number_limit, raised, raised_by, said_step, step_of, steps_of}

-- the front numbers are not 0
pub all_before : (numbers : List ℤ) (i : ℕ)
    → ((k : ℕ) → k < i → is_zero (slice_index_or numbers k (pos 0)) ≡ false)
    → All (λ n. is_zero n ≡ false) (take i numbers)
all_before [] zero none k d inside = absurd (omega arith)
all_before [] (suc i) none k d inside = absurd (omega arith)
all_before (n ∷ ns) zero none k d inside = absurd (omega arith)
all_before (n ∷ ns) (suc i) none zero d inside = none 0 (omega arith)
all_before (n ∷ ns) (suc i) none (suc k) d inside =
    all_before ns i (λ j below. none (suc j) (omega arith)) k d (omega arith)

cut_here : (numbers : List ℤ) (i : ℕ) → i < length numbers → numbers ≡ take i numbers
    ++ slice_index_or numbers i (pos 0) ∷ drop (suc i) numbers
cut_here [] i inside = absurd (omega arith)
cut_here (n ∷ ns) zero inside = refl
cut_here (n ∷ ns) (suc i) inside = ap (λ (l : List ℤ). n ∷ l) (cut_here ns i (omega arith))

-- the numbers, cut at their first 0
pub split_here : (numbers : List ℤ) (i : ℕ) → i < length numbers
    → is_zero (slice_index_or numbers i (pos 0)) ≡ true
    → ((k : ℕ) → k < i → is_zero (slice_index_or numbers k (pos 0)) ≡ false)
    → slice_split is_zero numbers ≡ take i numbers ∷ slice_split is_zero (drop (i + 1) numbers)
split_here numbers i inside is none =
    ap (slice_split is_zero) (cut_here numbers i inside)
    ∙ slice_split_at is_zero (take i numbers) (slice_index_or numbers i (pos 0))
    (drop (suc i) numbers) (all_before numbers i none) is
    ∙ rw add-one refl

all_of : (numbers : List ℤ) → ((k : ℕ) → k < length numbers → is_zero
    (slice_index_or numbers k (pos 0)) ≡ false) → All (λ n. is_zero n ≡ false) numbers
all_of [] none k d inside = absurd (omega arith)
all_of (n ∷ ns) none zero d inside = none 0 (omega arith)
all_of (n ∷ ns) none (suc k) d inside =
    all_of ns (λ j below. none (suc j) (omega arith)) k d (omega arith)

-- numbers without a 0 are not cut
pub split_nowhere : (numbers : List ℤ)
    → ((k : ℕ) → k < length numbers → is_zero (slice_index_or numbers k (pos 0)) ≡ false)
    → slice_split is_zero numbers ≡ numbers ∷ []
split_nowhere numbers none = slice_split_none is_zero numbers (all_of numbers none)

-- there is always a part
split_not_empty : (numbers : List ℤ) (more : List (List ℤ)) → slice_split is_zero numbers ≡ [] → ⊥
split_not_empty numbers more none =
    absurd (let size = length-slice_split is_zero numbers in let size_of : length
    (slice_split is_zero numbers) ≡ 0 = ap length none in omega (arith, size, size_of))

-- a number behind the second 0
pub added_by-behind : (id : ℤ) (lits hints end : List ℤ) → (length end == 0) ≡ false
    → added_by id (lits ∷ hints ∷ slice_split is_zero end) ≡ None
added_by-behind id lits hints [] some = absurd (let clash : true ≡ false = some in cc)
added_by-behind id lits hints (n ∷ ns) some =
    by (is_zero n) (slice_split is_zero ns) (λ none. split_not_empty ns [] none) where
      by : (b : Bool) (parts : List (List ℤ)) → (parts ≡ [] → ⊥)
          → added_by id (lits ∷ hints ∷ (if b then [] ∷ parts else onto_first n parts)) ≡ None
      by true [] some_part = absurd (some_part refl)
      by true (p ∷ ps) some_part = refl
      by false [] some_part = refl
      by false (p ∷ ps) some_part = refl

-- the numbers of literals with these numbers
pub codes_of_lits : (numbers : List ℤ) → map (λ (l : Lit). l.code) (map lit numbers) ≡ numbers
codes_of_lits [] = refl
codes_of_lits (n ∷ ns) = ap (λ (l : List ℤ). n ∷ l) (codes_of_lits ns)

-- the last number is at hand
pub ends_with_zero-last : (before : List ℤ) (last : ℤ) → ends_with_zero (before ++ last ∷ [])
    ≡ is_zero last
ends_with_zero-last [] last = refl
ends_with_zero-last (n ∷ []) last = refl
ends_with_zero-last (n ∷ m ∷ more) last = ends_with_zero-last (m ∷ more) last

pub but_last-last : (before : List ℤ) (last : ℤ) → but_last (before ++ last ∷ []) ≡ before
but_last-last [] last = refl
but_last-last (n ∷ []) last = refl
but_last-last (n ∷ m ∷ more) last = ap (λ (l : List ℤ). n ∷ l) (but_last-last (m ∷ more) last)

-- a 0 closes the numbers, or none does
pub deleted_ids-closed : (before : List ℤ) (last : ℤ) → is_zero last ≡ true
    → deleted_ids (before ++ last ∷ []) ≡ before
deleted_ids-closed before last is =
    rw (ends_with_zero-last before last, is) (but_last-last before last)

pub deleted_ids-open : (before : List ℤ) (last : ℤ) → is_zero last ≡ false
    → deleted_ids (before ++ last ∷ []) ≡ before ++ last ∷ []
deleted_ids-open before last is = rw (ends_with_zero-last before last, is) refl

-- the first number past its limit, where the id is not
pub added_limit-behind : (id : ℕ) (lits hints : List ℤ) → id ≤ 4294967295
    → added_limit id (map lit lits) hints
    ≡ option_or (first_past 100000000 lits) (first_past 4294967295 hints)
added_limit-behind id lits hints within = rw codes_of_lits (go (nat_lt 4294967295 id) refl) where
  go : (b : Bool) → nat_lt 4294967295 id ≡ b
      → option_or (if b then Some id else None)
      (option_or (first_past 100000000 lits) (first_past 4294967295 hints))
      ≡ option_or (first_past 100000000 lits) (first_past 4294967295 hints)
  go true e = absurd (grind arith)
  go false e = refl

-- no size is past its limit
pub none_past : (most : ℕ) (numbers : List ℤ) → first_past most numbers ≡ None → (k : ℕ) (d : ℤ)
    → k < length numbers → nat_abs (slice_index_or numbers k d) ≤ most
none_past most [] none k d inside = absurd (omega arith)
none_past most (n ∷ ns) none k d inside =
    go (nat_lt most (nat_abs n)) refl none
    (λ rest j below. none_past most ns rest j d below) k inside where
      go : (b : Bool) → nat_lt most (nat_abs n) ≡ b
          → (if b then Some (nat_abs n) else first_past most ns) ≡ None
          → (first_past most ns ≡ None → (j : ℕ) → j < length ns
          → nat_abs (slice_index_or ns j d) ≤ most)
          → (j : ℕ) → j < length (n ∷ ns) → nat_abs (slice_index_or (n ∷ ns) j d) ≤ most
      go true e clash later j inside = absurd (let no : Some (nat_abs n) ≡ None = clash in cc)
      go false e rest later zero inside = grind arith
      go false e rest later (suc j) inside = later rest j (omega arith)

-- numbers that are neither 0 nor past their limit are literals
pub are_literals : (id : ℕ) (lits hints : List ℤ) → All (λ n. is_zero n ≡ false) lits → None
    ≡ added_limit id (map lit lits) hints → All (λ n. IsLiteral (lit n)) lits
are_literals id lits hints nonzero none k d inside = (
  some_size (slice_index_or lits k d) (nonzero k d inside),
  omega (arith, none_past 100000000 lits within k d inside),
)
  where
    by : (a b c : Option ℕ) → None ≡ option_or a (option_or b c) → b ≡ None
    by None None c e = refl
    by None (Some x) c e = absurd (let clash : None ≡ Some x = e in cc)
    by (Some x) b c e = absurd (let clash : None ≡ Some x = e in cc)

    within : first_past 100000000 lits ≡ None
    within = by (first_past 4294967295 (pos id ∷ [])) (first_past 100000000 lits)
        (first_past 4294967295 hints) (rw codes_of_lits at none)

    some_size : (n : ℤ) → is_zero n ≡ false → 1 ≤ nat_abs n
    some_size (pos zero) e = absurd (let clash : true ≡ false = e in cc)
    some_size (pos (suc n)) e = omega arith
    some_size (negsuc n) e = omega arith

-- what holds of the numbers holds of the literals with these numbers
pub all_literals : (numbers : List ℤ) → All (λ n. IsLiteral (lit n)) numbers
    → All IsLiteral (map lit numbers)
all_literals [] all k d inside = absurd (omega arith)
all_literals (n ∷ ns) all zero d inside = all 0 n (omega arith)
all_literals (n ∷ ns) all (suc k) d inside =
    all_literals ns (λ j e h. all (suc j) e (omega arith)) k d (omega arith)

-- a line's fault, by its numbers
pub by_numbers : (rule : HintRule) (above n : ℕ) (words : Words)
    → line_fault (lrat_codes_by rule 0) above n words
    ≡ (if lacks_number (due_words words) then Some (Bad n 701) else numbers_fault rule above n
    (is_deletion words) (numbers_of (due_words words)))
by_numbers rule above n words =
    go (lacks_number (due_words words))
    (has_no_id (is_deletion words) (numbers_of (due_words words)))
    (step_of (is_deletion words) (numbers_of (due_words words)))
  where
    last : (o : Option ℕ) → option_or (option_map (λ count. Limit 705 count) o) None
        ≡ option_map (λ count. Limit 705 count) o
    last None = refl
    last (Some count) = refl

    go : (lacks no_id : Bool) (step : Option Step)
        → (if lacks || no_id then Some (Bad n 701) else if is_none step then Some
        (Bad n 702) else if is_out_of_order above step then Some
        (Bad n 703) else if has_barred_hint rule step then Some (Bad n 704) else option_or
        (option_map (λ count. Limit 705 count) (past_number_limit step)) None)
        ≡ (if lacks then Some (Bad n 701) else if no_id then Some
        (Bad n 701) else step_fault rule above n step)
    go true no_id step = refl
    go false true step = refl
    go false false None = refl
    go false false (Some (Added id clause hints)) =
        λ i. if nat_le id above then Some (Bad n 703)
        else if list_any is_below_zero hints && bars rule clause then Some (Bad n 704)
        else last (added_limit id clause hints) i
    go false false (Some (Erased id ids)) = last (erased_limit id ids)

-- so the answer that is given by the numbers of a line is one of the line
pub numbers_answer : (rule : HintRule) (above n : ℕ) (line : TextLine) (deletes : Bool)
    (numbers : List ℤ) (says : Option Step → Type 0) (result : Result (Unit {0}) TextFault)
    → n ≡ line.number
    → (if lacks_number (due_words line.words) then Some (Bad line.number 701) else None) ≡ None
    → deletes ≡ is_deletion line.words → numbers ≡ numbers_of (due_words line.words)
    → AnswersFault (numbers_fault rule above n deletes numbers)
    (λ _. says (step_of deletes numbers)) result
    → AnswersFault (step_line_fault rule above line) (λ _. says (said_step line.words)) result
numbers_answer rule above n line deletes numbers says result at clean is are answer =
    subst (λ fault. AnswersFault fault (λ _. says (said_step line.words)) result)
    (sym (by_numbers rule above line.number line.words
    ∙ go (lacks_number (due_words line.words)) clean))
    (rw (at, is, are) at answer)
  where
    go : (b : Bool) → (if b then Some (Bad line.number 701) else None) ≡ None
        → (if b then Some (Bad line.number 701) else numbers_fault rule above line.number
        (is_deletion line.words) (numbers_of (due_words line.words)))
        ≡ numbers_fault rule above line.number (is_deletion line.words)
        (numbers_of (due_words line.words))
    go true clash = absurd (let no : Some (Bad line.number 701) ≡ None = clash in cc)
    go false e = refl

-- the greatest id behind one more line
pub context_of-push : (inputs : ℕ) (before : List Words) (words : Words)
    → fold raised_by inputs (before ++ words ∷ []) ≡ raised_by (fold raised_by inputs before) words
context_of-push inputs [] words = refl
context_of-push inputs (first ∷ more) words = context_of-push (raised_by inputs first) more words

-- the faults of a text are those behind the ids of its input clauses
pub lrat_faults-from : (rule : HintRule) (inputs : ℕ) (text : Bytes)
    → lrat_faults_by rule inputs text
    ≡ faults_above rule inputs (told_lines text) (line_count text + 1)
lrat_faults-from rule inputs text =
    faults_behind-from raised_by (lrat_codes_by rule inputs) (context_of-push inputs) []
    (numbered_words (told_lines text)) (line_count text + 1)

-- one more line was taken
pub step_past : (rule : HintRule) (all : Faults) (above now end : ℕ) (ahead more : List TextLine)
    (line : TextLine)
    → ahead ≡ line ∷ more → IsPast all (faults_above rule above ahead end)
    → step_line_fault rule above line
    ≡ None
    → now ≡ raised above (said_step line.words) → IsPast all (faults_above rule now more end)
step_past rule all above now end ahead more line is past clean raise =
    subst (λ (n : ℕ). IsPast all (faults_above rule n more end)) (sym raise)
    (past-line {fault = step_line_fault rule above line} (rw is at past) clean)

-- and its step
pub step_taken : (ahead more : List TextLine) (line : TextLine) (step : Step) → ahead ≡ line ∷ more
    → said_step line.words ≡ Some step
    → steps_of (line_words ahead) ≡ step ∷ steps_of (line_words more)
step_taken ahead more line step is said =
    ap (λ (l : List TextLine). steps_of (line_words l)) is
    ∙ ap (λ (o : Option Step). cons_option o (steps_of (line_words more))) said
