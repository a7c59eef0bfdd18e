-- A line that adds a clause and has no fault, by the numbers that were taken from it.
use Rattle.std.proofs.Common.{◌≡◌, ◌<◌, ℕ, ℤ, pos, negsuc, Bool, false, true, List, [], ◌∷◌, ◌++◌, drop, slice_get, None, Some, refl, ◌∙◌, arith, append_assoc, append-nil}
use Rattle.std.specs.Prelude.{map, max, nat_abs, nat_le, not, option_and_then}
use Rattle.std.specs.Int.Signed.{le_z}
use Rattle.std.proofs.lemmas.Bool.Decides.{nat_tests}
use Rattle.fpga_text.specs.Bytes.{is_empty}
use Rattle.fpga_text.specs.Numbers.{signed_number_of}
use Rattle.fpga_text.specs.Words.{TextLine, Words}
use Rattle.sat_clause.specs.declared.literal.Lit.{Lit}
use Rattle.sat_clause.specs.Literal.{Clause}
use Rattle.sat_clause.specs.Step.{Added}
use Rattle.sat_text.specs.declared.hint_rule.HintRule.{HintRule}
use Rattle.sat_text.specs.FrontNumbers.{TakesFront}
use Rattle.sat_text.specs.ByNumbers.{step_line_fault}
use Rattle.sat_text.specs.LratText.{said_step}
use Rattle.sat_text.specs.Numbers.{lacks_number, numbers_of}
use Rattle.sat_text.specs.ReadBack.{IsPrintableStep}
use Rattle.sat_text.proofs.FrontLemmas.{front_both, front_one}
use Rattle.sat_text.proofs.LratLemmas.{by_numbers}
use Rattle.sat_text.proofs.LogBack.{added_limit-none, added_step-back, due_words-same, is_positive, no_deletion, none_below, not_above}

-- the line has no fault, and adds this clause
pub record AddsClause (rule : HintRule) (above : ℕ) (line : TextLine) (id : ℕ) (clause : Clause)
    (hints : List ℤ) : Type 0 where
  pub clean : step_line_fault rule above line ≡ None
  pub said : said_step line.words ≡ Some (Added id clause hints)

adds_clause : (rule : HintRule) (above : ℕ) (line : TextLine) (id : ℕ) (clause : Clause)
    (hints : List ℤ)
    → lacks_number line.words ≡ false
    → numbers_of line.words ≡ pos id
    ∷ (map (λ (l : Lit). l.code) clause ++ pos 0 ∷ (hints ++ pos 0 ∷ []))
    → IsPrintableStep above (Added id clause hints) → AddsClause rule above line id clause hints
adds_clause rule above line id clause hints number numbers fits =
    let other = no_deletion line.words number in
    let due = due_words-same line.words other in
    let step = added_step-back id clause hints fits.2 fits.3 in
    record {
      clean = by_numbers rule above line.number line.words
          ∙ rw (
            due,
            number,
            other,
            numbers,
            is_positive id (omega (arith, fits.0)),
            step,
            not_above above id fits.0,
            none_below hints fits.3,
            added_limit-none id clause hints fits.1 fits.2 fits.3,
          ) refl;
      said = rw (due, other, numbers) step;
    }

-- an id, literals and hints were taken, each of the two closed by a 0, and nothing is left
pub addition_taken : (rule : HintRule) (above : ℕ) (line : TextLine) (behind ahead end : Words)
    (id : ℕ) (clause : Clause) (hints : List ℤ)
    → Some (pos id) ≡ option_and_then signed_number_of (slice_get line.words 0) → behind
    ≡ drop 1 line.words
    → TakesFront behind ahead (map (λ (l : Lit). l.code) clause ++ pos 0 ∷ [])
    → TakesFront ahead end (hints ++ pos 0 ∷ []) → false ≡ not (is_empty end)
    → IsPrintableStep above (Added id clause hints) → AddsClause rule above line id clause hints
addition_taken rule above line behind ahead (word ∷ more) id clause hints first rest lits ids past
    fits =
    absurd (let clash : false ≡ true = past in cc)
addition_taken rule above line behind ahead [] id clause hints first rest lits ids past fits =
    let all = front_both (front_one line.words behind (pos id) first rest) (front_both lits ids) in
    adds_clause rule above line id clause hints all.lacks
    (all.said ∙ regroup (map (λ (l : Lit). l.code) clause) hints) fits
  where
    regroup : (lits ids : List ℤ) → (pos id ∷ ((lits ++ pos 0 ∷ []) ++ (ids ++ pos 0 ∷ []))) ++ []
        ≡ pos id ∷ (lits ++ pos 0 ∷ (ids ++ pos 0 ∷ []))
    regroup lits ids = simp (append_assoc, append-nil)

-- a number above this one, which is not negative
pub record IsAbove (above : ℕ) (n : ℤ) : Type 0 where
  pub plain : n ≡ pos (nat_abs n)
  pub over : above < nat_abs n

pub is_above : (above : ℕ) (n : ℤ) → le_z n (pos above) ≡ false → IsAbove above n
is_above above (pos k) over = record { plain = refl; over = go (nat_le k above) refl over } where
  go : (b : Bool) → nat_le k above ≡ b → b ≡ false → above < k
  go true e clash = absurd (let no : true ≡ false = clash in cc)
  go false e none = grind (arith, nat_tests)
is_above above (negsuc k) over = absurd (let clash : true ≡ false = over in cc)

pub greater : (a b : ℕ) → a < b → b ≡ max a b
greater a b less = grind (arith, less)
