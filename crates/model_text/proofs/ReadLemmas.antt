-- The faults of a model text, line by line.
use Rattle.std.proofs.Common.{◌≡◌, ◌+◌, ℕ, zero, suc, ℤ, Bool, true, false, List, [], ◌∷◌, ◌++◌, Option, None, Some, refl, sym, ap, subst, ◌∙◌, append_assoc, append-nil, arith}
use Rattle.std.specs.Prelude.{All, ◌||◌, nat_abs, nat_lt, if◌then◌else◌}
use Rattle.std.proofs.lemmas.Bool.{ltb-false, or_parts}
use Rattle.std.specs.List.{list_any}
use Rattle.std.proofs.lemmas.List.Concat.{flat_map-append}
use Rattle.fpga_text.specs.declared.fault.TextFault.{TextFault}
use Rattle.fpga_text.specs.declared.fault.TextFault.TheVariants.{Bad}
use Rattle.fpga_text.specs.declared.style.Style.TheVariants.{Plain}
use Rattle.fpga_text.specs.Bytes.{Bytes}
use Rattle.fpga_text.specs.Codes.{end_fault, faults_behind, numbered_words}
use Rattle.fpga_text.specs.FirstFault.{Faults, IsFaultOf, IsFaultless, IsFirst, IsRefusal, first_fault}
use Rattle.fpga_text.specs.Words.{TextLine, Words, line_count, line_words, text_lines}
use Rattle.fpga_text.proofs.FaultLemmas.{IsPast, past-line, past-nothing, past-part, refusal-line, refusal-part}
use Rattle.sat_clause.specs.Literal.{IsWithin, lit}
use Rattle.sat_text.specs.Numbers.{is_zero, lacks_number}
use Rattle.model_text.specs.declared.draft.Draft.{Draft}
use Rattle.model_text.specs.declared.line_kind.LineKind.TheVariants.{Passed, Values}
use Rattle.model_text.specs.Assignments.{Gives, vars_in}
use Rattle.model_text.specs.Drafts.{AreClean, IsDraftOf}
use Rattle.model_text.specs.LineKinds.{behind_v, is_denial_of, kind_of, number_words}
use Rattle.model_text.specs.Models.{gives_both, goes_on, has_strange_variable, literals_in}
use Rattle.model_text.specs.ModelText.{lines_faults, model_codes, model_faults, model_line_fault, model_numbers, numbers_in, values_fault}
use Rattle.model_text.proofs.DraftLemmas.{nonzero_size}

-- ---- a line by its kind

-- a line that is passed over has no fault, where nothing is wrong yet, and says no number
pub fault-passed : (vars : ℕ) (before : List ℤ) (number : ℕ) (words : Words)
    → Passed ≡ kind_of words → AreClean vars before
    → model_line_fault vars before number words ≡ None
fault-passed vars before number words is clean =
    rw (← is, append-nil before, clean.last, clean.known, clean.apart) refl

pub numbers-passed : (before : List ℤ) (words : Words) → Passed ≡ kind_of words
    → before ++ model_numbers words ≡ before
numbers-passed before words is = rw (← is) (append-nil before)

-- a line with literals is refused by its words that are to be numbers
pub fault-values : (vars : ℕ) (before : List ℤ) (number : ℕ) (words : Words)
    → Values ≡ kind_of words
    → model_line_fault vars before number words ≡ values_fault vars before number (behind_v words)
fault-values vars before number words is = rw (← is) refl

pub numbers-values : (words : Words) → Values ≡ kind_of words
    → number_words words ≡ behind_v words
numbers-values words is = rw (← is) refl

-- ---- all lines, and the end

-- the numbers of one line more
pub numbers-more : (before : List Words) (words : Words)
    → numbers_in (before ++ words ∷ []) ≡ numbers_in before ++ model_numbers words
numbers-more before words = flat_map-append model_numbers before (words ∷ [])
    ∙ ap (λ (l : List ℤ). numbers_in before ++ l) (append-nil (model_numbers words))

-- the faults of lines, and that of the end
pub faults-split : (vars : ℕ) (before : List Words) (lines : List TextLine) (end : ℕ)
    → faults_behind (model_codes vars) before (numbered_words lines) end
    ≡ lines_faults vars (numbers_in before) lines
    ++ end_fault (model_codes vars) (numbers_in (before ++ line_words lines)) end ∷ []
faults-split vars before [] end =
    ap (λ (ws : List Words). end_fault (model_codes vars) (numbers_in ws) end ∷ [])
    (sym (append-nil before))
faults-split vars before (line ∷ more) end =
    ap (λ (rest : Faults). model_line_fault vars (numbers_in before) line.number line.words ∷ rest)
    (faults-split vars (before ++ line.words ∷ []) more end
    ∙ (λ i. lines_faults vars (numbers-more before line.words i) more
    ++ end_fault (model_codes vars)
    (numbers_in (append_assoc before (line.words ∷ []) (line_words more) i)) end ∷ []))

module _ (vars : ℕ) (text : Bytes) where
  abbrev lines : List TextLine
  lines = text_lines Plain text

  abbrev end : Option TextFault
  end = end_fault (model_codes vars) (numbers_in (line_words lines)) (line_count text + 1)

  both-parts : IsPast (model_faults vars text) (lines_faults vars [] lines ++ end ∷ [])
  both-parts = record { same = ap first_fault (faults-split vars [] lines (line_count text + 1)) }

  -- a line is refused
  pub refused-line : (fault : TextFault) → IsRefusal (lines_faults vars [] lines) fault
      → IsRefusal (model_faults vars text) fault
  refused-line fault bad = refusal-part (lines_faults vars [] lines) (end ∷ []) fault both-parts bad

  -- the end is refused
  pub refused-end : IsFaultless (lines_faults vars [] lines)
      → list_any is_zero (numbers_in (line_words lines)) ≡ false
      → IsFirst (model_faults vars text) (Bad (line_count text + 1) 1006)
  refused-end clean none =
      (past-part (lines_faults vars [] lines) (end ∷ []) both-parts clean).same ∙ rw none refl

  -- nothing is
  pub faultless : IsFaultless (lines_faults vars [] lines)
      → list_any is_zero (numbers_in (line_words lines)) ≡ true
      → IsFaultless (model_faults vars text)
  faultless clean ended =
      (past-part (lines_faults vars [] lines) (end ∷ []) both-parts clean).same ∙ rw ended refl

-- ---- line by line

-- the lines up to these were taken, and none of them is refused
pub record IsReadTo (vars : ℕ) (all ahead : List TextLine) (draft : Draft) : Type 0 where
  pub done : List ℤ
  pub split : numbers_in (line_words all) ≡ done ++ numbers_in (line_words ahead)
  pub many : vars_in draft.assignment ≡ vars
  pub is : IsDraftOf done draft
  pub clean : AreClean vars done
  pub past : IsPast (lines_faults vars [] all) (lines_faults vars done ahead)

-- by what tests a line with this number is not refused
first_none : (number one two three four five : ℕ) (a b c d e : Bool)
    → (if a then Some (Bad number one) else if b then Some (Bad number two)
    else if c then Some (Bad number three) else if d then Some (Bad number four)
    else if e then Some (Bad number five) else None) ≡ None
    → (c ≡ false) × (d ≡ false) × (e ≡ false)
first_none number one two three four five true b c d e h =
    absurd (let clash : Some (Bad number one) ≡ None = h in cc)
first_none number one two three four five false true c d e h =
    absurd (let clash : Some (Bad number two) ≡ None = h in cc)
first_none number one two three four five false false true d e h =
    absurd (let clash : Some (Bad number three) ≡ None = h in cc)
first_none number one two three four five false false false true e h =
    absurd (let clash : Some (Bad number four) ≡ None = h in cc)
first_none number one two three four five false false false false true h =
    absurd (let clash : Some (Bad number five) ≡ None = h in cc)
first_none number one two three four five false false false false false h = (refl, refl, refl)

-- up to a line that is not refused nothing is wrong with the numbers
pub clean-line : (vars : ℕ) (before : List ℤ) (number : ℕ) (words : Words)
    → model_line_fault vars before number words ≡ None
    → AreClean vars (before ++ model_numbers words)
clean-line vars before number words clean =
    let tests = first_none number 1001 1002 1003 1004 1005 (is_denial_of (kind_of words))
    (lacks_number (number_words words)) (goes_on (before ++ model_numbers words))
    (has_strange_variable vars (literals_in (before ++ model_numbers words)))
    (gives_both (literals_in (before ++ model_numbers words))) clean in
    record { last = tests.0; known = tests.1; apart = tests.2 }

-- no line was taken yet
pub read-none : (all : List TextLine) (draft : Draft) → IsDraftOf [] draft
    → IsReadTo (vars_in draft.assignment) all all draft
read-none all draft is = record {
  done = [];
  split = refl;
  many = refl;
  is = is;
  clean = record { last = refl; known = refl; apart = refl };
  past = past-nothing (lines_faults (vars_in draft.assignment) [] all);
}

-- one more line was taken, and is not refused
pub read-more : (vars : ℕ) (all ahead more : List TextLine) (line : TextLine) (now new : Draft)
    → (so_far : IsReadTo vars all ahead now) → ahead ≡ line ∷ more
    → vars_in new.assignment ≡ vars_in now.assignment
    → model_line_fault vars so_far.done line.number line.words ≡ None
    → IsDraftOf (so_far.done ++ model_numbers line.words) new
    → IsReadTo vars all more new
read-more vars all ahead more line now new so_far is kept clean taken = record {
  done = so_far.done ++ model_numbers line.words;
  split = so_far.split
      ∙ ap (λ (ls : List TextLine). so_far.done ++ numbers_in (line_words ls)) is
      ∙ sym (append_assoc so_far.done (model_numbers line.words)
      (numbers_in (line_words more)));
  many = kept ∙ so_far.many;
  is = taken;
  clean = clean-line vars so_far.done line.number line.words clean;
  past = past-line {fault = model_line_fault vars so_far.done line.number line.words}
      (subst (λ (ls : List TextLine).
      IsPast (lines_faults vars [] all) (lines_faults vars so_far.done ls)) is so_far.past) clean;
}

-- the next line is refused
pub read-refused : (vars : ℕ) (all ahead more : List TextLine) (line : TextLine) (now : Draft)
    (found : TextFault) → (so_far : IsReadTo vars all ahead now) → ahead ≡ line ∷ more
    → IsFaultOf (model_line_fault vars so_far.done line.number line.words) found
    → IsRefusal (lines_faults vars [] all) found
read-refused vars all ahead more line now found so_far is bad =
    refusal-line {fault = model_line_fault vars so_far.done line.number line.words} found
    (subst (λ (ls : List TextLine).
    IsPast (lines_faults vars [] all) (lines_faults vars so_far.done ls)) is so_far.past) bad

-- no line is left
pub read-out : (vars : ℕ) (all ahead : List TextLine) (now : Draft)
    (so_far : IsReadTo vars all ahead now) → ahead ≡ []
    → IsFaultless (lines_faults vars [] all)
    × IsDraftOf (numbers_in (line_words all)) now
    × AreClean vars (numbers_in (line_words all))
read-out vars all ahead now so_far none =
    let same : numbers_in (line_words all) ≡ so_far.done = so_far.split
    ∙ ap (λ (ls : List TextLine). so_far.done ++ numbers_in (line_words ls)) none
    ∙ append-nil so_far.done in (
      so_far.past.same
          ∙ ap (λ (ls : List TextLine). first_fault (lines_faults vars so_far.done ls)) none,
      subst (λ (ns : List ℤ). IsDraftOf ns now) (sym same) so_far.is,
      subst (AreClean vars) (sym same) so_far.clean,
    )

-- ---- what the whole text says

-- of literals none of which is strange or 0 each is of the variables
pub within-all : (vars : ℕ) (numbers : List ℤ)
    → has_strange_variable vars (literals_in numbers) ≡ false
    → All (IsWithin vars) (literals_in numbers)
within-all vars [] none = λ k d inside. absurd (omega (arith, inside))
within-all vars (n ∷ more) none = go (is_zero n) refl none (within-all vars more) where
  -- the first literal is of the variables, and so are those behind it
  each : is_zero n ≡ false
      → (nat_lt vars (nat_abs n) || has_strange_variable vars (literals_in more)) ≡ false
      → (has_strange_variable vars (literals_in more) ≡ false
      → All (IsWithin vars) (literals_in more))
      → All (IsWithin vars) (lit n ∷ literals_in more)
  each e both later zero d inside =
      let parts = or_parts (nat_lt vars (nat_abs n))
      (has_strange_variable vars (literals_in more)) both in
      (nonzero_size n e, ltb-false vars (nat_abs n) parts.0)
  each e both later (suc k) d inside =
      let parts = or_parts (nat_lt vars (nat_abs n))
      (has_strange_variable vars (literals_in more)) both in
      later parts.1 k d (omega (arith, inside))

  go : (b : Bool) → is_zero n ≡ b
      → has_strange_variable vars (literals_in (n ∷ more)) ≡ false
      → (has_strange_variable vars (literals_in more) ≡ false
      → All (IsWithin vars) (literals_in more))
      → All (IsWithin vars) (literals_in (n ∷ more))
  go true e none later = rw e (λ k d inside. absurd (omega (arith, inside)))
  go false e none later = rw e (each e (rw e at none) later)

-- a draft whose last line is not refused has what the literals say
pub draft-gives : (vars : ℕ) (numbers : List ℤ) (draft : Draft) → IsDraftOf numbers draft
    → vars_in draft.assignment ≡ vars
    → AreClean vars numbers → Gives vars (literals_in numbers) draft.assignment
draft-gives vars numbers draft is same clean = record {
  many = same;
  within = within-all vars numbers clean.known;
  apart = clean.apart;
  each = λ l within. is.each l (subst (λ (v : ℕ). IsWithin v l) (sym same) within);
}
