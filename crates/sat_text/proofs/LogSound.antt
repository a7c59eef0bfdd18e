-- A log that was read is one that may be printed and read again.
use Rattle.std.proofs.Common.{◌≡◌, ◌<◌, ◌≤◌, ◌+◌, ℕ, zero, suc, ℤ, pos, negsuc, Bool, false, true, List, [], ◌∷◌, length, Option, None, Some, refl, sym, subst, ◌∙◌, arith}
use Rattle.std.specs.Prelude.{All, map, nat_abs, nat_le, ◌||◌, ◌&&◌, if◌then◌else◌, option_map, slice_index_or}
use Rattle.std.specs.List.{list_any, slice_split, onto_first, cons_option}
use Rattle.std.proofs.lemmas.Bool.{leb-false}
use Rattle.std.proofs.lemmas.List.Elements.{All-cons, All-nil, All-tail}
use Rattle.fpga_text.specs.declared.fault.TextFault.{TextFault}
use Rattle.fpga_text.specs.declared.fault.TextFault.TheVariants.{Bad, Limit}
use Rattle.fpga_text.specs.Bytes.{Bytes}
use Rattle.fpga_text.specs.FirstFault.{IsFaultless}
use Rattle.fpga_text.specs.Words.{TextLine, line_count, line_words}
use Rattle.fpga_text.proofs.FaultLemmas.{faultless-line, option_or-none}
use Rattle.sat_clause.specs.Literal.{IsWithin, lit}
use Rattle.sat_clause.specs.Step.{Step, Added, Erased}
use Rattle.sat_text.specs.ByNumbers.{step_fault, step_line_fault}
use Rattle.sat_text.specs.declared.hint_rule.HintRule.TheVariants.{Plain}
use Rattle.sat_text.specs.CnfText.{but_last}
use Rattle.sat_text.specs.LratText.{faults_above, ReadsLrat, added_by, added_limit, deleted_ids, due_words, ends_with_zero, erased_limit, first_past, has_no_id, is_below_zero, is_deletion, is_not_positive, raised, said_step, step_of, steps_of}
use Rattle.sat_text.specs.Numbers.{is_zero, lacks_number, numbers_of}
use Rattle.sat_text.specs.Printed.{log_text}
use Rattle.sat_text.specs.ReadBack.{IsIdNumber, IsPrintableStep, IsPrintableLog}
use Rattle.sat_text.specs.ToldLines.{told_lines}
use Rattle.sat_text.proofs.LogBack.{printed_log_reads}
use Rattle.sat_text.proofs.LratLemmas.{by_numbers, codes_of_lits, lrat_faults-from, none_past}

-- there is no fault, so this one is not it
not_first : (b : Bool) (fault : TextFault) (rest : Option TextFault)
    → (if b then Some fault else rest) ≡ None → (b ≡ false) × (rest ≡ None)
not_first true fault rest clash = absurd (let no : Some fault ≡ None = clash in cc)
not_first false fault rest clean = (refl, clean)

not_limited : (o : Option ℕ) → option_map (λ count. Limit 705 count) o ≡ None → o ≡ None
not_limited None clean = refl
not_limited (Some count) clash = absurd (let no : Some (Limit 705 count) ≡ None = clash in cc)

neither : (a b : Bool) → (a || b) ≡ false → (a ≡ false) × (b ≡ false)
neither true b clash = absurd (let no : true ≡ false = clash in cc)
neither false b clean = (refl, clean)

none_negative : (b : Bool) → (b && true) ≡ false → b ≡ false
none_negative true none = none
none_negative false none = refl

-- a positive number within its limit
id_number : (z : ℤ) → is_not_positive z ≡ false → nat_abs z ≤ 4294967295 → IsIdNumber z
id_number (pos zero) clash few = absurd (let no : true ≡ false = clash in cc)
id_number (pos (suc n)) some few = record { id = suc n; is = refl; some = omega arith; few = few }
id_number (negsuc n) clash few = absurd (let no : true ≡ false = clash in cc)

-- a number that is neither negative nor 0
hint_number : (z : ℤ) → is_below_zero z ≡ false → is_zero z ≡ false → nat_abs z ≤ 4294967295
    → IsIdNumber z
hint_number (pos zero) sign clash few = absurd (let no : true ≡ false = clash in cc)
hint_number (pos (suc n)) sign some few =
    record { id = suc n; is = refl; some = omega arith; few = few }
hint_number (negsuc n) clash some few = absurd (let no : true ≡ false = clash in cc)

id_numbers : (ids : List ℤ) → list_any is_not_positive ids ≡ false
    → ((k : ℕ) (d : ℤ) → k < length ids → nat_abs (slice_index_or ids k d) ≤ 4294967295)
    → All IsIdNumber ids
id_numbers [] none few = All-nil IsIdNumber
id_numbers (z ∷ zs) none few =
    let both = neither (is_not_positive z) (list_any is_not_positive zs) none in
    All-cons IsIdNumber z zs (id_number z both.0 (few 0 z (omega arith)))
    (id_numbers zs both.1 (λ k d inside. few (suc k) d (omega (arith, inside))))

hint_numbers : (hints : List ℤ) → list_any is_below_zero hints ≡ false
    → All (λ z. is_zero z ≡ false) hints
    → ((k : ℕ) (d : ℤ) → k < length hints → nat_abs (slice_index_or hints k d) ≤ 4294967295)
    → All IsIdNumber hints
hint_numbers [] none some few = All-nil IsIdNumber
hint_numbers (z ∷ zs) none some few =
    let both = neither (is_below_zero z) (list_any is_below_zero zs) none in
    All-cons IsIdNumber z zs (hint_number z both.0 (some 0 z (omega arith)) (few 0 z (omega arith)))
    (hint_numbers zs both.1 (All-tail (λ y. is_zero y ≡ false) z zs some)
    (λ k d inside. few (suc k) d (omega (arith, inside))))

some_size : (z : ℤ) → is_zero z ≡ false → 1 ≤ nat_abs z
some_size (pos zero) clash = absurd (let no : true ≡ false = clash in cc)
some_size (pos (suc n)) e = omega arith
some_size (negsuc n) e = omega arith

literals : (lits : List ℤ) → All (λ z. is_zero z ≡ false) lits
    → ((k : ℕ) (d : ℤ) → k < length lits → nat_abs (slice_index_or lits k d) ≤ 100000000)
    → All (IsWithin 100000000) (map lit lits)
literals [] some few = All-nil (IsWithin 100000000)
literals (z ∷ zs) some few =
    All-cons (IsWithin 100000000) (lit z) (map lit zs)
    (some_size z (some 0 z (omega arith)), few 0 z (omega arith))
    (literals zs (All-tail (λ y. is_zero y ≡ false) z zs some)
    (λ k d inside. few (suc k) d (omega (arith, inside))))

-- no part of numbers that are cut at each 0 has a 0
split_nonzero : (numbers : List ℤ)
    → All (All (λ z. is_zero z ≡ false)) (slice_split is_zero numbers)
split_nonzero [] =
    All-cons (All (λ z. is_zero z ≡ false)) [] [] (All-nil (λ z. is_zero z ≡ false))
    (All-nil (All (λ z. is_zero z ≡ false)))
split_nonzero (n ∷ ns) = go (is_zero n) refl (slice_split is_zero ns) (split_nonzero ns)
  where
    Nonzero : List ℤ → Type 0
    Nonzero part = All (λ z. is_zero z ≡ false) part

    go : (b : Bool) → is_zero n ≡ b → (parts : List (List ℤ)) → All Nonzero parts
        → All Nonzero (if b then [] ∷ parts else onto_first n parts)
    go true e parts later = All-cons Nonzero [] parts (All-nil (λ z. is_zero z ≡ false)) later
    go false e [] later =
        All-cons Nonzero (n ∷ []) [] (All-cons (λ z. is_zero z ≡ false) n [] e
        (All-nil (λ z. is_zero z ≡ false))) later
    go false e (part ∷ parts) later =
        All-cons Nonzero (n ∷ part) parts
        (All-cons (λ z. is_zero z ≡ false) n part e (later 0 part (omega arith)))
        (All-tail Nonzero part parts later)

-- the numbers of a line say a step that may be printed
record IsGoodNumbers (above : ℕ) (deletes : Bool) (numbers : List ℤ) : Type 0 where
  pub step : Step
  pub said : step_of deletes numbers ≡ Some step
  pub fits : IsPrintableStep above step

good_erased : (above n : ℕ) (id : ℤ) (more : List ℤ) → has_no_id true (id ∷ more) ≡ false
    → step_fault Plain above n (step_of true (id ∷ more)) ≡ None
    → IsGoodNumbers above true (id ∷ more)
good_erased above n id more ids clean = go (ends_with_zero more) refl clean where
  go : (b : Bool) → ends_with_zero more ≡ b
      → step_fault Plain above n (if b then Some (Erased (nat_abs id) (but_last more)) else None)
      ≡ None
      → IsGoodNumbers above true (id ∷ more)
  go false e clash = absurd (let no : Some (Bad n 702) ≡ None = clash in cc)
  go true e rest =
      let both = neither (is_not_positive id) (list_any is_not_positive (deleted_ids more)) ids in
      let named : list_any is_not_positive (but_last more) ≡ false =
      subst (λ (b : Bool). list_any is_not_positive (if b then but_last more else more) ≡ false)
      e both.1 in
      let few = none_past 4294967295 (pos (nat_abs id) ∷ but_last more)
      (not_limited (erased_limit (nat_abs id) (but_last more)) rest) in
      let first = id_number id both.0 (few 0 id (omega arith)) in
      record {
        step = Erased (nat_abs id) (but_last more);
        said = rw e refl;
        fits = (
          rw first.is first.some,
          few 0 id (omega arith),
          id_numbers (but_last more) named (λ k d inside. few (suc k) d (omega arith)),
        );
      }

good_added : (above n : ℕ) (id : ℤ) (more : List ℤ)
    → step_fault Plain above n (step_of false (id ∷ more))
    ≡ None → IsGoodNumbers above false (id ∷ more)
good_added above n id more clean =
    go (slice_split is_zero more) refl (split_nonzero more) clean where
      go : (parts : List (List ℤ)) → slice_split is_zero more ≡ parts
          → All (All (λ z. is_zero z ≡ false)) parts
          → step_fault Plain above n (added_by id parts) ≡ None
          → IsGoodNumbers above false (id ∷ more)
      go [] e some clash = absurd (let no : Some (Bad n 702) ≡ None = clash in cc)
      go (lits ∷ []) e some clash = absurd (let no : Some (Bad n 702) ≡ None = clash in cc)
      go (lits ∷ hints ∷ []) e some clash = absurd (let no : Some (Bad n 702) ≡ None = clash in cc)
      go (lits ∷ hints ∷ (x ∷ xs) ∷ parts) e some clash =
          absurd (let no : Some (Bad n 702) ≡ None = clash in cc)
      go (lits ∷ hints ∷ [] ∷ part ∷ parts) e some clash =
          absurd (let no : Some (Bad n 702) ≡ None = clash in cc)
      go (lits ∷ hints ∷ [] ∷ []) e some rest =
          let low = not_first (nat_le (nat_abs id) above) (Bad n 703) _ rest in
          let sign = not_first (list_any is_below_zero hints && true) (Bad n 704) _ low.1 in
          let over : above < nat_abs id = leb-false (nat_abs id) above low.0 in
          let limits = option_or-none (first_past 4294967295 (pos (nat_abs id) ∷ [])) _
          (rw codes_of_lits at (not_limited (added_limit (nat_abs id) (map lit lits) hints) sign.1))
          in
          let few = option_or-none (first_past 100000000 lits) (first_past 4294967295 hints)
          limits.1 in
          record {
            step = Added (nat_abs id) (map lit lits) hints;
            said = rw e refl;
            fits = (
              over,
              none_past 4294967295 (pos (nat_abs id) ∷ []) limits.0 0 id (omega arith),
              literals lits (some 0 [] (omega arith)) (none_past 100000000 lits few.0),
              hint_numbers hints (none_negative (list_any is_below_zero hints) sign.0)
                  (some 1 [] (omega arith))
                  (none_past 4294967295 hints few.1),
            );
          }

good_numbers : (above n : ℕ) (deletes : Bool) (numbers : List ℤ) → has_no_id deletes numbers ≡ false
    → step_fault Plain above n (step_of deletes numbers) ≡ None
    → IsGoodNumbers above deletes numbers
good_numbers above n true [] ids clash = absurd (let no : Some (Bad n 702) ≡ None = clash in cc)
good_numbers above n false [] ids clash = absurd (let no : Some (Bad n 702) ≡ None = clash in cc)
good_numbers above n true (id ∷ more) ids clean = good_erased above n id more ids clean
good_numbers above n false (id ∷ more) ids clean = good_added above n id more clean

-- so does a line without a fault
good_line : (above : ℕ) (line : TextLine) → step_line_fault Plain above line ≡ None
    → IsGoodNumbers above (is_deletion line.words) (numbers_of (due_words line.words))
good_line above line clean =
    let number = not_first (lacks_number (due_words line.words)) (Bad line.number 701) _
    (sym (by_numbers Plain above line.number line.words) ∙ clean) in
    let ids = not_first (has_no_id (is_deletion line.words) (numbers_of (due_words line.words)))
    (Bad line.number 701) _ number.1 in
    good_numbers above line.number (is_deletion line.words)
    (numbers_of (due_words line.words)) ids.0 ids.1

-- and lines without one say a log that may be printed
good_lines : (above end : ℕ) (lines : List TextLine)
    → IsFaultless (faults_above Plain above lines end)
    → IsPrintableLog above (steps_of (line_words lines))
good_lines above end [] clean = tt
good_lines above end (line ∷ more) clean =
    let parts = faultless-line (step_line_fault Plain above line)
    (faults_above Plain (raised above (said_step line.words)) more end) clean in
    let good = good_line above line parts.0 in
    let later : IsPrintableLog (raised above (said_step line.words)) (steps_of (line_words more)) =
    good_lines (raised above (said_step line.words)) end more parts.1 in
    subst (λ (o : Option Step). IsPrintableLog above (cons_option o (steps_of (line_words more))))
    (sym good.said) (
      good.fits,
      subst (λ (o : Option Step). IsPrintableLog (raised above o)
          (steps_of (line_words more))) good.said later,
    )

-- a log that was read can be printed
pub printable_log : (inputs : ℕ) (text : Bytes) (log : List Step) → ReadsLrat inputs text log
    → IsPrintableLog inputs log
printable_log inputs text log reads =
    subst (IsPrintableLog inputs) (sym reads.steps)
    (good_lines inputs (line_count text + 1) (told_lines text)
    (subst IsFaultless (lrat_faults-from Plain inputs text) reads.faultless))

-- and is read again as it is
pub read_log_again : (log : List Step) (inputs : ℕ) (text : Bytes) → ReadsLrat inputs text log
    → ReadsLrat inputs (log_text log) log
read_log_again log inputs text reads =
    printed_log_reads inputs log (printable_log inputs text log reads)
