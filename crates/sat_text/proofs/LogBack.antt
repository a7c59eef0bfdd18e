-- A printed log is read as it is.
use Rattle.std.proofs.Common.{◌≡◌, ◌<◌, ◌≤◌, ◌+◌, ℕ, zero, suc, ℤ, pos, Bool, false, true, List, [], ◌∷◌, ◌++◌, length, Option, None, Some, refl, sym, ap, subst, ◌∙◌, arith, append_assoc}
use Rattle.std.specs.Prelude.{All, map, flat_map, nat_abs, nat_le, not, ◌||◌, codes, slice_index_or}
use Rattle.std.specs.List.{list_any, slice_split, cons_option}
use Rattle.std.specs.Fmt.{signed_decimal}
use Rattle.std.proofs.lemmas.Bool.{le-ltb, lt-leb}
use Rattle.std.proofs.lemmas.List.Elements.{All-append, All-cons, All-map, All-nil}
use Rattle.std.proofs.lemmas.List.Splits.{slice_split_at}
use Rattle.std.proofs.lemmas.Fmt.{decimal_digit}
use Rattle.std.proofs.lemmas.Grind.{flat_map-append}
use Rattle.fpga_text.specs.declared.style.Style.TheVariants.{Plain}
use Rattle.fpga_text.specs.Bytes.{Bytes, is_newline, is_empty}
use Rattle.fpga_text.specs.FirstFault.{IsFaultless}
use Rattle.fpga_text.specs.Words.{Words, line_count, line_words, lines, words, text_line}
use Rattle.fpga_text.proofs.PrintedLines.{lines-ended, numbered, seen}
use Rattle.fpga_text.proofs.PrintedWords.{both-pass, is_line_byte, lacks, line-newline, signed-word, word-line, words-word}
use Rattle.sat_clause.specs.Literal.{Clause, IsWithin}
use Rattle.sat_clause.specs.Step.{Step, Added, Erased}
use Rattle.sat_text.specs.ByNumbers.{step_line_fault}
use Rattle.sat_text.specs.LratText.{faults_above, ReadsLrat, added_limit, added_step, due_words, erased_limit, erased_step, first_past, is_below_zero, is_deletion, is_not_positive, raised, said_step, steps_of}
use Rattle.sat_text.specs.declared.hint_rule.HintRule.TheVariants.{Plain as PlainHints}
use Rattle.sat_text.specs.Numbers.{is_number, is_zero, lacks_number, numbers_of}
use Rattle.sat_text.specs.Printed.{literal_text, log_text, number_text, step_text}
use Rattle.sat_text.specs.ReadBack.{IsIdNumber, IsPrintableStep, IsPrintableLog}
use Rattle.sat_text.specs.ToldLines.{told}
use Rattle.sat_text.proofs.DraftLemmas.{lits_of_codes, no_zeros, not_zero}
use Rattle.sat_text.proofs.FrontLemmas.{not_letter}
use Rattle.sat_text.proofs.LratLemmas.{but_last-last, by_numbers, deleted_ids-closed, ends_with_zero-last, lrat_faults-from}
use Rattle.sat_text.proofs.NumberLines.{IsSmall, IsTold, codes_of, lacks_number-printed, literal_text-numbers, no_comment-number, number_line, numbers_of-printed, small_codes, told-all, told-line, whole-line, words-line}

-- the numbers of a line that adds a clause, but for the last 0
abbrev added_numbers : ℕ → Clause → List ℤ → List ℤ
added_numbers id clause hints = pos id ∷ (codes_of clause ++ pos 0 ∷ hints)

-- the line of a step, without its newline
abbrev step_line : Step → Bytes
step_line (Added id clause hints) = number_line (added_numbers id clause hints)
step_line (Erased id ids) = signed_decimal (pos id) ++ (codes " d " ++ number_line ids)

zero_text : number_text (pos 0) ≡ codes "0 "
zero_text = ap (λ (t : Bytes). t ++ codes " ") (decimal_digit 0 (omega arith))

regroup_added : (n l z r a b : Bytes) → n ++ ((l ++ z) ++ (r ++ (a ++ b)))
    ≡ ((n ++ (l ++ (z ++ r))) ++ a) ++ b
regroup_added n l z r a b = simp append_assoc

added_middle : (clause : Clause) (hints : List ℤ) → flat_map literal_text clause
    ++ (codes "0 " ++ flat_map number_text hints)
    ≡ flat_map number_text (codes_of clause ++ pos 0 ∷ hints)
added_middle clause hints =
    ap (λ (t : Bytes). t ++ (codes "0 " ++ flat_map number_text hints))
    (literal_text-numbers clause)
    ∙ ap (λ (t : Bytes). flat_map number_text (codes_of clause)
    ++ (t ++ flat_map number_text hints)) (sym zero_text)
    ∙ sym (flat_map-append number_text (codes_of clause) (pos 0 ∷ hints))

step_ended : (step : Step) → step_text step ≡ step_line step ++ codes "\n"
step_ended (Added id clause hints) =
    regroup_added (number_text (pos id)) (flat_map literal_text clause) (codes "0 ")
    (flat_map number_text hints) (codes "0") (codes "\n")
    ∙ ap (λ (t : Bytes). ((number_text (pos id) ++ t) ++ codes "0") ++ codes "\n")
    (added_middle clause hints)
step_ended (Erased id ids) = regroup (signed_decimal (pos id)) (flat_map number_text ids) where
  regroup : (first rest : Bytes) → ((first ++ codes " ") ++ codes "d ") ++ (rest ++ codes "0\n")
      ≡ (first ++ (codes " d " ++ (rest ++ codes "0"))) ++ codes "\n"
  regroup first rest = simp append_assoc

small_id : (z : ℤ) → IsIdNumber z → IsSmall z
small_id z is = rw is.is (omega (arith, is.few))

small_ids : (ids : List ℤ) → All IsIdNumber ids → All IsSmall ids
small_ids ids all k d inside = small_id _ (all k d inside)

small_added : (id : ℕ) (clause : Clause) (hints : List ℤ) → id ≤ 4294967295
    → All (IsWithin 100000000) clause → All IsIdNumber hints
    → All IsSmall (added_numbers id clause hints)
small_added id clause hints few within all =
    All-cons IsSmall (pos id) (codes_of clause ++ pos 0 ∷ hints) (omega (arith, few))
    (All-append IsSmall (codes_of clause) (pos 0 ∷ hints)
    (small_codes 100000000 clause (omega arith) within)
    (All-cons IsSmall (pos 0) hints (omega arith) (small_ids hints all)))

-- a line of numbers is no deletion
pub no_deletion : (said : Words) → lacks_number said ≡ false → is_deletion said ≡ false
no_deletion [] number = refl
no_deletion (word ∷ []) number = refl
no_deletion (id ∷ word ∷ more) number =
    not_letter word (codes "d") more refl (later (not (is_number id)) number) where
      later : (b : Bool) → (b || lacks_number (word ∷ more)) ≡ false → lacks_number (word ∷ more)
          ≡ false
      later true e = absurd (let no : true ≡ false = e in cc)
      later false e = e

pub due_words-same : (said : Words) → is_deletion said ≡ false → due_words said ≡ said
due_words-same [] other = refl
due_words-same (id ∷ more) other = rw other refl

-- an id is positive
pub is_positive : (n : ℕ) → 1 ≤ n → is_not_positive (pos n) ≡ false
is_positive n some = lt-leb n 0 some

not_below : (n : ℕ) → is_below_zero (pos n) ≡ false
not_below n = le-ltb n 0 (omega arith)

none_positive : (ids : List ℤ) → All IsIdNumber ids → list_any is_not_positive ids ≡ false
none_positive [] all = refl
none_positive (z ∷ zs) all =
    let here = all 0 z (omega arith) in
    rw (here.is, is_positive here.id here.some)
    (none_positive zs (λ k d inside. all (suc k) d (omega arith)))

pub none_below : (hints : List ℤ) → All IsIdNumber hints → list_any is_below_zero hints ≡ false
none_below [] all = refl
none_below (z ∷ zs) all =
    let here = all 0 z (omega arith) in
    rw (here.is, not_below here.id) (none_below zs (λ k d inside. all (suc k) d (omega arith)))

pub first_past-none : (most : ℕ) (numbers : List ℤ)
    → ((k : ℕ) (d : ℤ) → k < length numbers → nat_abs (slice_index_or numbers k d) ≤ most)
    → first_past most numbers ≡ None
first_past-none most [] within = refl
first_past-none most (n ∷ ns) within =
    rw (le-ltb most (nat_abs n) (within 0 n (omega arith)))
    (first_past-none most ns (λ k d inside. within (suc k) d (omega arith)))

ids_zeros : (ids : List ℤ) → All IsIdNumber ids → All (λ z. is_zero z ≡ false) ids
ids_zeros ids all k d inside =
    let here = all k d inside in not_zero (slice_index_or ids k d) (rw here.is here.some)

-- ids and hints are within their limit
ids_few : (ids : List ℤ) → All IsIdNumber ids → (k : ℕ) (d : ℤ) → k < length ids
    → nat_abs (slice_index_or ids k d) ≤ 4294967295
ids_few ids all k d inside = let here = all k d inside in rw here.is here.few

-- literals are within theirs
lits_few : (clause : Clause) → All (IsWithin 100000000) clause → (k : ℕ) (d : ℤ)
    → k < length (codes_of clause) → nat_abs (slice_index_or (codes_of clause) k d) ≤ 100000000
lits_few [] within k d inside = absurd (omega arith)
lits_few (l ∷ ls) within zero d inside = (within 0 l (omega arith)).1
lits_few (l ∷ ls) within (suc k) d inside =
    lits_few ls (λ j e h. within (suc j) e (omega arith)) k d (omega arith)

one_few : (id : ℕ) → id ≤ 4294967295 → first_past 4294967295 (pos id ∷ []) ≡ None
one_few id few = first_past-none 4294967295 (pos id ∷ []) go where
  go : (k : ℕ) (d : ℤ) → k < length (pos id ∷ [])
      → nat_abs (slice_index_or (pos id ∷ []) k d) ≤ 4294967295
  go zero d inside = few
  go (suc k) d inside = absurd (omega arith)

-- no number of an added clause is past its limit
pub added_limit-none : (id : ℕ) (clause : Clause) (hints : List ℤ) → id ≤ 4294967295
    → All (IsWithin 100000000) clause → All IsIdNumber hints → added_limit id clause hints ≡ None
added_limit-none id clause hints few within all =
    rw (
      one_few id few,
      first_past-none 100000000 (codes_of clause) (lits_few clause within),
      first_past-none 4294967295 hints (ids_few hints all),
    ) refl

-- none of a deletion
erased_limit-none : (id : ℕ) (ids : List ℤ) → id ≤ 4294967295 → All IsIdNumber ids
    → erased_limit id ids ≡ None
erased_limit-none id ids few all = first_past-none 4294967295 (pos id ∷ ids) go where
  go : (k : ℕ) (d : ℤ) → k < length (pos id ∷ ids)
      → nat_abs (slice_index_or (pos id ∷ ids) k d) ≤ 4294967295
  go zero d inside = few
  go (suc k) d inside = ids_few ids all k d (omega arith)

-- the numbers of an added clause, cut at each 0
added_parts : (clause : Clause) (hints : List ℤ) → All (IsWithin 100000000) clause
    → All IsIdNumber hints
    → slice_split is_zero (codes_of clause ++ pos 0 ∷ (hints ++ pos 0 ∷ []))
    ≡ codes_of clause ∷ hints ∷ [] ∷ []
added_parts clause hints within all =
    slice_split_at is_zero (codes_of clause) (pos 0) (hints ++ pos 0 ∷ [])
    (no_zeros 100000000 clause within) refl
    ∙ ap (λ (l : List (List ℤ)). codes_of clause ∷ l)
    (slice_split_at is_zero hints (pos 0) [] (ids_zeros hints all) refl)

-- the step that they say
pub added_step-back : (id : ℕ) (clause : Clause) (hints : List ℤ) → All (IsWithin 100000000) clause
    → All IsIdNumber hints
    → added_step (pos id ∷ (codes_of clause ++ pos 0 ∷ (hints ++ pos 0 ∷ [])))
    ≡ Some (Added id clause hints)
added_step-back id clause hints within all =
    rw (added_parts clause hints within all, lits_of_codes clause) refl

-- the step that the numbers of a deletion say
erased_step-back : (id : ℕ) (ids : List ℤ) → erased_step (pos id ∷ (ids ++ pos 0 ∷ []))
    ≡ Some (Erased id ids)
erased_step-back id ids = rw (ends_with_zero-last ids (pos 0), but_last-last ids (pos 0)) refl

-- the words of a deletion
words-erased : (id : ℕ) (ids : List ℤ) → IsSmall (pos id) → All IsSmall ids
    → words (step_line (Erased id ids))
    ≡ signed_decimal (pos id) ∷ codes "d" ∷ (map signed_decimal ids ++ codes "0" ∷ [])
words-erased id ids small all =
    words-word (signed_decimal (pos id)) (codes "d " ++ number_line ids)
    (signed-word (pos id) (omega (arith, small)))
    ∙ ap (λ (l : Words). signed_decimal (pos id) ∷ codes "d" ∷ l) (words-line ids all)

-- what is read of a line: whether it deletes, whether a word is no number, and its numbers
record IsSaidBy (raw : Bytes) (deletes : Bool) (numbers : List ℤ) : Type 0 where
  pub deletion : is_deletion (words raw) ≡ deletes
  pub number : lacks_number (due_words (words raw)) ≡ false
  pub numbers_are : numbers_of (due_words (words raw)) ≡ numbers

regroup_numbers : (id : ℕ) (clause : Clause) (hints : List ℤ) → added_numbers id clause hints
    ++ pos 0 ∷ [] ≡ pos id ∷ (codes_of clause ++ pos 0 ∷ (hints ++ pos 0 ∷ []))
regroup_numbers id clause hints =
    ap (λ (l : List ℤ). pos id ∷ l) (append_assoc (codes_of clause) (pos 0 ∷ hints) (pos 0 ∷ []))

said_added : (id : ℕ) (clause : Clause) (hints : List ℤ)
    → All IsSmall (added_numbers id clause hints)
    → IsSaidBy (step_line (Added id clause hints)) false
    (pos id ∷ (codes_of clause ++ pos 0 ∷ (hints ++ pos 0 ∷ [])))
said_added id clause hints small =
    let is = words-line (added_numbers id clause hints) small in
    let lacks : lacks_number (words (step_line (Added id clause hints))) ≡ false =
    ap lacks_number is ∙ lacks_number-printed (added_numbers id clause hints) (codes "0" ∷ [])
    small in
    let other = no_deletion (words (step_line (Added id clause hints))) lacks in
    let due = due_words-same (words (step_line (Added id clause hints))) other in
    record {
      deletion = other;
      number = ap lacks_number due ∙ lacks;
      numbers_are =
          ap numbers_of (due ∙ is) ∙ numbers_of-printed (added_numbers id clause hints)
          (codes "0" ∷ []) small ∙ regroup_numbers id clause hints;
    }

said_erased : (id : ℕ) (ids : List ℤ) → IsSmall (pos id) → All IsSmall ids
    → IsSaidBy (step_line (Erased id ids)) true (pos id ∷ (ids ++ pos 0 ∷ []))
said_erased id ids small all =
    let is = words-erased id ids small all in
    let due : due_words (words (step_line (Erased id ids))) ≡ map signed_decimal (pos id ∷ ids)
    ++ codes "0" ∷ [] = ap due_words is in
    let both = All-cons IsSmall (pos id) ids small all in
    record {
      deletion = ap is_deletion is;
      number = ap lacks_number due ∙ lacks_number-printed (pos id ∷ ids) (codes "0" ∷ []) both;
      numbers_are = ap numbers_of due ∙ numbers_of-printed (pos id ∷ ids) (codes "0" ∷ []) both;
    }

pub not_above : (above id : ℕ) → above < id → nat_le id above ≡ false
not_above above id over = lt-leb id above over

-- a printed step has no fault, and says itself
pub record IsReadBack (above n : ℕ) (step : Step) : Type 0 where
  pub clean : step_line_fault PlainHints above (text_line Plain n (step_line step)) ≡ None
  pub said : said_step (words (step_line step)) ≡ Some step

read_back : (above n : ℕ) (step : Step) → IsPrintableStep above step → IsReadBack above n step
read_back above n (Added id clause hints) fits =
    let said = said_added id clause hints (small_added id clause hints fits.1 fits.2 fits.3) in
    let step = added_step-back id clause hints fits.2 fits.3 in
    record {
      clean = by_numbers PlainHints above n (words (step_line (Added id clause hints)))
          ∙ rw (
            said.number,
            said.deletion,
            said.numbers_are,
            is_positive id (omega (arith, fits.0)),
            step,
            not_above above id fits.0,
            none_below hints fits.3,
            added_limit-none id clause hints fits.1 fits.2 fits.3,
          ) refl;
      said = rw (said.deletion, said.numbers_are) step;
    }
read_back above n (Erased id ids) fits =
    let said = said_erased id ids (omega (arith, fits.1)) (small_ids ids fits.2) in
    record {
      clean = by_numbers PlainHints above n (words (step_line (Erased id ids)))
          ∙ rw (
            said.number,
            said.deletion,
            said.numbers_are,
            is_positive id fits.0,
            deleted_ids-closed ids (pos 0) refl,
            none_positive ids fits.2,
            erased_step-back id ids,
            erased_limit-none id ids fits.1 fits.2,
          ) refl;
      said = rw (said.deletion, said.numbers_are) (erased_step-back id ids);
    }

-- the line of a step is one, and tells something
record IsStepLine (raw : Bytes) : Type 0 where
  pub one_line : lacks is_newline raw ≡ true
  pub tells : IsTold raw

is_step_line : (above : ℕ) (step : Step) → IsPrintableStep above step → IsStepLine (step_line step)
is_step_line above (Added id clause hints) fits =
    let small = small_added id clause hints fits.1 fits.2 fits.3 in
    record {
      one_line = line-newline (step_line (Added id clause hints))
          (whole-line (added_numbers id clause hints) small);
      tells =
          told-line (added_numbers id clause hints) small;
    }
is_step_line above (Erased id ids) fits =
    let small = small_ids ids fits.2 in
    let first : IsSmall (pos id) = omega (arith, fits.1) in
    record {
      one_line = line-newline (step_line (Erased id ids))
          (both-pass is_line_byte (signed_decimal (pos id)) (codes " d " ++ number_line ids)
          (word-line (signed_decimal (pos id)) (signed-word (pos id) (omega (arith, first))).bytes)
          (whole-line ids small));
      tells = record {
        said = ap is_empty (words-erased id ids first small);
        no_comment =
            no_comment-number (pos id) (codes " d " ++ number_line ids) first;
      };
    }

-- so is each line of a log
step_lines : (above : ℕ) (log : List Step) → IsPrintableLog above log
    → All (λ step. IsStepLine (step_line step)) log
step_lines above [] fits = All-nil (λ step. IsStepLine (step_line step))
step_lines above (step ∷ steps) fits =
    All-cons (λ step. IsStepLine (step_line step)) step steps (is_step_line above step fits.0)
    (step_lines (raised above (Some step)) steps fits.1)

log_ended : (log : List Step) → log_text log ≡ flat_map (λ step. step_line step ++ codes "\n") log
log_ended [] = refl
log_ended (step ∷ steps) = λ i. step_ended step i ++ log_ended steps i

-- none of its lines has a fault, and they say its steps
record IsLogBack (above n end : ℕ) (log : List Step) : Type 0 where
  pub clean : IsFaultless (faults_above PlainHints above (numbered Plain n (map step_line log)) end)
  pub says : steps_of (line_words (numbered Plain n (map step_line log))) ≡ log

log_back : (above n end : ℕ) (log : List Step) → IsPrintableLog above log
    → IsLogBack above n end log
log_back above n end [] fits = record { clean = refl; says = refl }
log_back above n end (step ∷ steps) fits =
    let here = read_back above n step fits.0 in
    let later = log_back (raised above (Some step)) (n + 1) end steps fits.1 in
    record {
      clean = rw here.clean (subst
          (λ (o : Option Step). IsFaultless
          (faults_above PlainHints (raised above o)
          (numbered Plain (n + 1) (map step_line steps)) end))
          (sym here.said) later.clean);
      says = ap (λ (o : Option Step). cons_option o
          (steps_of (line_words (numbered Plain (n + 1) (map step_line steps))))) here.said
          ∙ ap (λ (l : List Step). step ∷ l) later.says;
    }

-- a printed log reads as it is
pub printed_log_reads : (inputs : ℕ) (log : List Step) → IsPrintableLog inputs log
    → ReadsLrat inputs (log_text log) log
printed_log_reads inputs log fits =
    let each = step_lines inputs log fits in
    let is : lines (log_text log) ≡ map step_line log =
    ap lines (log_ended log) ∙ lines-ended step_line log
    (λ k d inside. (each k d inside).one_line) in
    let told_are =
    ap (λ (rs : List Bytes). told (seen Plain 1 rs)) is
    ∙ told-all 1 (map step_line log)
    (All-map IsTold step_line log (λ k d inside. (each k d inside).tells)) in
    let back = log_back inputs 1 (line_count (log_text log) + 1) log fits in
    record {
      faultless = subst IsFaultless (sym
          (lrat_faults-from PlainHints inputs (log_text log)
          ∙ ap (λ ls. faults_above PlainHints inputs ls (line_count (log_text log) + 1))
          told_are)) back.clean;
      steps = sym (ap (λ ls. steps_of (line_words ls)) told_are ∙ back.says);
    }
