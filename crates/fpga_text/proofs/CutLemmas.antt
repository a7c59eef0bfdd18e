-- What the cuts of a line or a text are, and what a reader has before it after a cut.
use Rattle.std.proofs.Common.{◌≡◌, ◌<◌, ◌≤◌, ◌+◌, ℕ, suc, Bool, true, false, List, [], ◌∷◌, length, take, drop, refl, sym, ap, ◌∙◌, inl, inr, arith, one-add}
use Rattle.std.specs.Prelude.{All, not, ◌==◌, filter, IsTrue}
use Rattle.std.specs.List.{slice_split, before_first, after_first, position_or_len}
use Rattle.std.proofs.lemmas.Bool.{cases_lt}
use Rattle.std.proofs.lemmas.List.{take_all, drop_all}
use Rattle.std.proofs.lemmas.List.Sums.{fails_before_first}
use Rattle.std.proofs.lemmas.List.Splits.{slice_split_first}
use Rattle.fpga_text.specs.Bytes.{Bytes, is_blank, is_empty}
use Rattle.fpga_text.specs.Words.{TextLine, words, begins_word}
use Rattle.fpga_text.specs.Reading.{with_line}
use Rattle.fpga_text.proofs.LineLemmas.{words-last}

-- an element that fails the test is passed by
pub position_or_len-cons_no : {X : Type 0} (p : X → Bool) (x : X) (xs : List X) → p x ≡ false
    → position_or_len p (x ∷ xs) ≡ suc (position_or_len p xs)
position_or_len-cons_no p x xs e = rw (e, one-add (position_or_len p xs)) refl

-- the first word is what stands before the first blank, and the others are those after it
pub words-first : (c : ℕ) (more : Bytes) → is_blank c ≡ false → words (c ∷ more)
    ≡ before_first is_blank (c ∷ more) ∷ words (after_first is_blank (c ∷ more))
words-first c more begins =
    elim (cases_lt (position_or_len is_blank (c ∷ more)) (length (c ∷ more)))
    [ inl inside ↦ ended inside | inr past ↦ last past ]
  where
    word : before_first is_blank (c ∷ more) ≡ c ∷ before_first is_blank more
    word = ap (λ n. take n (c ∷ more)) (position_or_len-cons_no is_blank c more begins)

    ended : position_or_len is_blank (c ∷ more) < length (c ∷ more) → words (c ∷ more)
        ≡ before_first is_blank (c ∷ more) ∷ words (after_first is_blank (c ∷ more))
    ended inside =
        ap (filter (λ (part : Bytes). not (is_empty part)))
        (slice_split_first is_blank (c ∷ more) c inside)
        ∙ ap (λ (w : Bytes). filter (λ (part : Bytes). not (is_empty part))
        (w ∷ slice_split is_blank (after_first is_blank (c ∷ more)))) word
        ∙ ap (λ (w : Bytes). w ∷ words (after_first is_blank (c ∷ more))) (sym word)

    last : length (c ∷ more) ≤ position_or_len is_blank (c ∷ more) → words (c ∷ more)
        ≡ before_first is_blank (c ∷ more) ∷ words (after_first is_blank (c ∷ more))
    last past =
        let one_word : All (λ d. is_blank d ≡ false) (c ∷ more) =
        (λ k d h. fails_before_first is_blank (c ∷ more) k d (omega (arith, h, past))) in
        let whole : before_first is_blank (c ∷ more) ≡ c ∷ more =
        take_all (position_or_len is_blank (c ∷ more)) (c ∷ more) past in
        let nothing : after_first is_blank (c ∷ more) ≡ [] =
        drop_all (position_or_len is_blank (c ∷ more) + 1) (c ∷ more) (omega (arith, past)) in
        words-last c more one_word ∙ sym (λ i. whole i ∷ words (nothing i))

-- the same of a text that is not empty and begins with a word
pub words-cut : (text : Bytes) → 0 < length text → IsTrue (begins_word text) → words text
    ≡ before_first is_blank text ∷ words (after_first is_blank text)
words-cut [] some begins = absurd (omega (arith, some))
words-cut (c ∷ more) some begins = words-first c more (go (is_blank c) begins)
  where
    go : (b : Bool) → IsTrue (not b) → b ≡ false
    go true clash = absurd (let e : false ≡ true = clash in cc)
    go false said = refl

-- the first line is one of those with words, if it has words
pub filter-with_line : (line : TextLine) (all : List TextLine)
    → filter (λ (l : TextLine). not (is_empty l.words)) (line ∷ all)
    ≡ with_line line (filter (λ (l : TextLine). not (is_empty l.words)) all)
filter-with_line line all = by_words (is_empty line.words) refl
  where
    by_words : (b : Bool) → is_empty line.words ≡ b
        → filter (λ (l : TextLine). not (is_empty l.words)) (line ∷ all)
        ≡ with_line line (filter (λ (l : TextLine). not (is_empty l.words)) all)
    by_words true none = rw none refl
    by_words false some = rw some refl

nonempty : (text : Bytes) → false ≡ (length text == 0) → 0 < length text
nonempty [] some = absurd (let clash : false ≡ true = some in cc)
nonempty (b ∷ more) some = omega arith

-- a cut at the first blank gives the first word and what says the others
pub words-part : (text word rest : Bytes) (place : ℕ) → false ≡ (length text == 0)
    → IsTrue (begins_word text) → place ≡ position_or_len is_blank text
    → word ≡ take place text → rest ≡ drop (place + 1) text → words text ≡ word ∷ words rest
words-part text word rest place some begins at before after =
    rw (before, after, at) (words-cut text (nonempty text some) begins)
