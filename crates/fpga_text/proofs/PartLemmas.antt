-- The lines of any text are lines, and their words are words: what was read can be printed.
use Rattle.std.proofs.Common.{◌≡◌, ◌+◌, ℕ, Bool, true, false, List, [], ◌∷◌, take, refl, one-add}
use Rattle.std.specs.Prelude.{All, cond, not, ◌&&◌, map, filter, if◌then◌else◌}
use Rattle.std.specs.List.{AllByRecursion, list_all, slice_split, onto_first, enumerate_from, before_first, position_or_len}
use Rattle.std.proofs.lemmas.Bool.{and_parts, and_from}
use Rattle.std.proofs.lemmas.List.Elements.{All-filter, All-from_recursion}
use Rattle.fpga_text.specs.declared.style.Style.{Style}
use Rattle.fpga_text.specs.declared.style.Style.TheVariants.{Hash}
use Rattle.fpga_text.specs.Bytes.{Bytes, is_newline, is_blank, is_hash, is_empty}
use Rattle.fpga_text.specs.Words.{TextLine, text_line, lines, ended_parts}
use Rattle.fpga_text.proofs.PrintedWords.{is_word_byte, lacks, weaker-pass, IsWord}
use Rattle.fpga_text.proofs.PrintedLines.{said, seen}

-- the elements that pass one test and fail another
abbrev but : {X : Type 0} → (X → Bool) → (X → Bool) → X → Bool
but q p x = q x && not (p x)

-- what stands between cuts is not cut
split_all : {X : Type 0} (q p : X → Bool) (xs : List X) → list_all q xs ≡ true
    → AllByRecursion (λ part. list_all (but q p) part ≡ true) (slice_split p xs)
split_all q p [] all = (refl, tt)
split_all {X} q p (x ∷ xs) all =
    let parts = and_parts (q x) (list_all q xs) all in
    go (p x) refl (slice_split p xs) (split_all q p xs parts.1) parts.0
  where
    go : (b : Bool) → p x ≡ b → (parts : List (List X))
        → AllByRecursion (λ part. list_all (but q p) part ≡ true) parts → q x ≡ true
        → AllByRecursion (λ part. list_all (but q p) part ≡ true)
        (cond b ([] ∷ parts) (onto_first x parts))
    go true e parts rest passes = (refl, rest)
    go false e [] rest passes = (and_from (but q p x) true (λ i. passes i && not (e i)) refl, tt)
    go false e (part ∷ more) rest passes =
        (and_from (but q p x) (list_all (but q p) part) (λ i. passes i && not (e i)) rest.0, rest.1)

-- what stands before the first cut is not cut
before_all : {X : Type 0} (q p : X → Bool) (xs : List X) → list_all q xs ≡ true
    → list_all (but q p) (before_first p xs) ≡ true
before_all q p [] all = refl
before_all q p (x ∷ xs) all =
    let parts = and_parts (q x) (list_all q xs) all in
    go (p x) refl parts.0 (before_all q p xs parts.1)
  where
    go : (b : Bool) → p x ≡ b → q x ≡ true → list_all (but q p) (before_first p xs) ≡ true
        → list_all (but q p) (take (cond (not b) (1 + position_or_len p xs) 0) (x ∷ xs)) ≡ true
    go true e passes rest = refl
    go false e passes rest =
        rw (one-add (position_or_len p xs))
        (and_from (but q p x) (list_all (but q p) (before_first p xs))
        (λ i. passes i && not (e i)) rest)

-- each element passes a test that asks nothing
any_all : {X : Type 0} (xs : List X) → list_all (λ _. true) xs ≡ true
any_all [] = refl
any_all (x ∷ xs) = any_all xs

-- a last part that is empty is no line
ended_all : (P : Bytes → Type 0) (parts : List Bytes) → AllByRecursion P parts
    → AllByRecursion P (ended_parts parts)
ended_all P [] all = tt
ended_all P (last ∷ []) all = go (is_empty last)
  where
    go : (b : Bool) → AllByRecursion P (if b then [] else last ∷ [])
    go true = tt
    go false = (all.0, tt)
ended_all P (part ∷ next ∷ more) all = (all.0, ended_all P (next ∷ more) all.1)

-- no line of a text has a newline
pub lines-lack_newlines : (text : Bytes) → AllByRecursion (λ raw. lacks is_newline raw ≡ true)
    (lines text)
lines-lack_newlines text =
    ended_all (λ raw. lacks is_newline raw ≡ true) (slice_split is_newline text)
    (split_all (λ _. true) is_newline text (any_all text))

-- the line is one, and its words are those of its bytes
pub record IsWhole (style : Style) (line : TextLine) : Type 0 where
  pub words : line.words ≡ said style line.raw
  pub one_line : lacks is_newline line.raw ≡ true

-- each line of a text that has words is so, where none goes on
pub whole-lines : (style : Style) (text : Bytes) → All (IsWhole style) (seen style 1 (lines text))
whole-lines style text = All-filter (λ line. not (is_empty line.words)) (IsWhole style)
    (map (λ l. text_line style l.0 l.1) (enumerate_from 1 (lines text)))
    (All-from_recursion (IsWhole style) _ (go 1 (lines text) (lines-lack_newlines text)))
  where
    go : (n : ℕ) (raws : List Bytes) → AllByRecursion (λ raw. lacks is_newline raw ≡ true) raws
        → AllByRecursion (IsWhole style)
        (map (λ l. text_line style l.0 l.1) (enumerate_from n raws))
    go n [] all = tt
    go n (raw ∷ more) all = (record { words = refl; one_line = all.0 }, go (n + 1) more all.1)

-- each word of a line that is cut at its comment is a word
pub words-are_words : (raw : Bytes) → lacks is_newline raw ≡ true
    → AllByRecursion IsWord (said Hash raw)
words-are_words raw one_line =
    kept (slice_split is_blank (before_first is_hash raw))
    (split_all (but (λ b. not (is_newline b)) is_hash) is_blank (before_first is_hash raw)
    (before_all (λ b. not (is_newline b)) is_hash raw one_line))
  where
    byte : (b : ℕ) → (not (is_newline b) && not (is_hash b) && not (is_blank b)) ≡ true
        → is_word_byte b ≡ true
    byte b e = go (not (is_newline b)) (not (is_hash b)) (not (is_blank b)) e
      where
        go : (newline hash blank : Bool) → (newline && hash && blank) ≡ true
            → (blank && (newline && hash)) ≡ true
        go true true true f = refl
        go true true false f = absurd (let clash : false ≡ true = f in cc)
        go true false blank f = absurd (let clash : false ≡ true = f in cc)
        go false hash blank f = absurd (let clash : false ≡ true = f in cc)

    kept : (parts : List Bytes)
        → AllByRecursion
        (λ part. list_all (but (but (λ b. not (is_newline b)) is_hash) is_blank) part ≡ true) parts
        → AllByRecursion IsWord (filter (λ part. not (is_empty part)) parts)
    kept [] all = tt
    kept ([] ∷ more) all = kept more all.1
    kept ((b ∷ part) ∷ more) all = (
      record {
        some = refl;
        bytes =
            weaker-pass (but (but (λ b. not (is_newline b)) is_hash) is_blank) is_word_byte byte
            (b ∷ part) all.0;
      },
      kept more all.1,
    )
