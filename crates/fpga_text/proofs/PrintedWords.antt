-- Printed words and numbers are read as they are.
use Rattle.std.proofs.Common.{◌≡◌, ◌<◌, ◌≤◌, ◌^◌, ℕ, suc, ℤ, pos, negsuc, nat_abs, Bool, true, false, List, [], ◌∷◌, ◌++◌, length, Some, ◌⊎◌, inl, inr, refl, sym, ap, ◌∙◌, arith, append_assoc}
use Rattle.std.specs.Prelude.{All, not, ◌==◌, ◌&&◌, ◌||◌, nat_le, map, flat_map, codes, decimal}
use Rattle.std.specs.List.{list_all}
use Rattle.std.specs.Char.{is_ascii_digit}
use Rattle.std.specs.Fmt.{signed_decimal}
use Rattle.std.specs.Str.Parse.{AllDigits}
use Rattle.std.proofs.lemmas.Bool.{not-true, and_parts, and_from, le-leb, ne_eqb}
use Rattle.std.proofs.lemmas.Fmt.{decimal_is_IsNumeral}
use Rattle.std.proofs.lemmas.List.Elements.{All-tail}
use Rattle.std.proofs.lemmas.List.Folds.{list_all-append}
use Rattle.std.proofs.lemmas.List.Sums.{AllPass-from_list_all}
use Rattle.std.proofs.lemmas.Str.Parse.{digit_from_value}
use Rattle.fpga_text.specs.Bytes.{Bytes, is_newline, is_blank, is_hash, is_empty}
use Rattle.fpga_text.specs.Words.{Words, words}
use Rattle.fpga_text.specs.Numbers.{signed_number_of, whole_number_of}
use Rattle.fpga_text.proofs.LineLemmas.{words-next, words-last}
use Rattle.fpga_text.proofs.NumberLemmas.{negated_number-small, plain_number-small, whole_number_of-digits}

-- no byte is of this kind
abbrev pub lacks : (ℕ → Bool) → Bytes → Bool
lacks test bytes = list_all (λ b. not (test b)) bytes

-- the byte ends no line and begins no comment
abbrev pub is_line_byte : ℕ → Bool
is_line_byte b = not (is_newline b) && not (is_hash b)

-- the byte is none of those that cut lines, comments and words
abbrev pub is_word_byte : ℕ → Bool
is_word_byte b = not (is_blank b) && is_line_byte b

-- the bytes are one word
pub record IsWord (word : Bytes) : Type 0 where
  pub some : is_empty word ≡ false
  pub bytes : list_all is_word_byte word ≡ true

-- what the bytes of two parts pass, those of both pass
pub both-pass : {X : Type 0} (p : X → Bool) (xs ys : List X) → list_all p xs ≡ true → list_all p ys
    ≡ true → list_all p (xs ++ ys) ≡ true
both-pass p xs ys first second =
    list_all-append p xs ys ∙ and_from (list_all p xs) (list_all p ys) first second

-- a weaker test is passed too
pub weaker-pass : {X : Type 0} (p q : X → Bool) → ((x : X) → p x ≡ true → q x ≡ true)
    → (xs : List X) → list_all p xs ≡ true → list_all q xs ≡ true
weaker-pass p q weaker [] e = refl
weaker-pass p q weaker (x ∷ xs) e =
    let parts = and_parts (p x) (list_all p xs) e in
    and_from (q x) (list_all q xs) (weaker x parts.0) (weaker-pass p q weaker xs parts.1)

-- where no byte is of a kind, each fails its test
pub lacks-each : (test : ℕ → Bool) (bytes : Bytes) → lacks test bytes ≡ true
    → All (λ b. test b ≡ false) bytes
lacks-each test bytes e =
    λ k d h. not-true _ (AllPass-from_list_all (λ b. not (test b)) bytes e k d h)

-- the bytes of a word have no blank
pub word-blank : (word : Bytes) → list_all is_word_byte word ≡ true → lacks is_blank word ≡ true
word-blank word e =
    weaker-pass is_word_byte (λ b. not (is_blank b))
    (λ b pass. (and_parts (not (is_blank b)) (is_line_byte b) pass).0) word e

-- and may stand in a line
pub word-line : (word : Bytes) → list_all is_word_byte word ≡ true → list_all is_line_byte word
    ≡ true
word-line word e =
    weaker-pass is_word_byte is_line_byte
    (λ b pass. (and_parts (not (is_blank b)) (is_line_byte b) pass).1) word e

-- the bytes of a line have no newline
pub line-newline : (line : Bytes) → list_all is_line_byte line ≡ true → lacks is_newline line ≡ true
line-newline line e =
    weaker-pass is_line_byte (λ b. not (is_newline b))
    (λ b pass. (and_parts (not (is_newline b)) (not (is_hash b)) pass).0) line e

-- and begin no comment
pub line-hash : (line : Bytes) → list_all is_line_byte line ≡ true → lacks is_hash line ≡ true
line-hash line e =
    weaker-pass is_line_byte (λ b. not (is_hash b))
    (λ b pass. (and_parts (not (is_newline b)) (not (is_hash b)) pass).1) line e

-- a word with a blank behind it
pub words-word : (word rest : Bytes) → IsWord word → words (word ++ 32 ∷ rest) ≡ word ∷ words rest
words-word [] rest is = absurd (let clash : true ≡ false = is.some in cc)
words-word (c ∷ more) rest is =
    words-next c more rest 32 (lacks-each is_blank (c ∷ more) (word-blank (c ∷ more) is.bytes)) refl

-- a word at the end of a line
pub words-end : (word : Bytes) → IsWord word → words word ≡ word ∷ []
words-end [] is = absurd (let clash : true ≡ false = is.some in cc)
words-end (c ∷ more) is =
    words-last c more (lacks-each is_blank (c ∷ more) (word-blank (c ∷ more) is.bytes))

-- words, each with a blank behind it
pub words-each : {Y : Type 0} (f : Y → Bytes) (ys : List Y) (rest : Bytes)
    → All (λ y. IsWord (f y)) ys → words (flat_map (λ y. f y ++ codes " ") ys ++ rest)
    ≡ map f ys ++ words rest
words-each f [] rest all = refl
words-each f (y ∷ ys) rest all =
    ap words (append_assoc (f y ++ codes " ") (flat_map (λ z. f z ++ codes " ") ys) rest
    ∙ append_assoc (f y) (codes " ") (flat_map (λ z. f z ++ codes " ") ys ++ rest))
    ∙ words-word (f y) (flat_map (λ z. f z ++ codes " ") ys ++ rest) (all 0 y (omega arith))
    ∙ ap (λ (l : Words). f y ∷ l) (words-each f ys rest (All-tail (λ z. IsWord (f z)) y ys all))

-- their bytes may stand in a line
pub line-each : {Y : Type 0} (f : Y → Bytes) (ys : List Y) → All (λ y. IsWord (f y)) ys
    → list_all is_line_byte (flat_map (λ y. f y ++ codes " ") ys) ≡ true
line-each f [] all = refl
line-each f (y ∷ ys) all =
    both-pass is_line_byte (f y ++ codes " ") (flat_map (λ z. f z ++ codes " ") ys)
    (both-pass is_line_byte (f y) (codes " ") (word-line (f y) (all 0 y (omega arith)).bytes) refl)
    (line-each f ys (All-tail (λ z. IsWord (f z)) y ys all))

digits_pass : (p : ℕ → Bool) → ((c : ℕ) → 48 ≤ c → c ≤ 57 → p c ≡ true) → (ds : Bytes)
    → AllDigits 10 ds → list_all p ds ≡ true
digits_pass p pass [] all = refl
digits_pass p pass (c ∷ cs) all =
    let range = digit_from_value c all.0 in
    and_from (p c) (list_all p cs) (pass c range.0 range.1) (digits_pass p pass cs all.1)

-- the digits of a number pass what each digit passes
pub decimal-pass : (p : ℕ → Bool) → ((c : ℕ) → 48 ≤ c → c ≤ 57 → p c ≡ true) → (n : ℕ) → n < 2 ^ 64
    → list_all p (decimal n) ≡ true
decimal-pass p pass n fits = digits_pass p pass (decimal n) (decimal_is_IsNumeral n fits).0.1

-- and so do the bytes of a signed number, where a minus sign passes it too
pub signed-pass : (p : ℕ → Bool) → p 45 ≡ true → ((c : ℕ) → 48 ≤ c → c ≤ 57 → p c ≡ true) → (z : ℤ)
    → nat_abs z < 2 ^ 64 → list_all p (signed_decimal z) ≡ true
signed-pass p minus pass (pos n) fits = decimal-pass p pass n fits
signed-pass p minus pass (negsuc n) fits =
    and_from (p 45) (list_all p (decimal (suc n))) minus (decimal-pass p pass (suc n) fits)

-- a byte above 57 or below 48 is no digit
pub digit-differs : (other c : ℕ) → 48 ≤ c → c ≤ 57 → (other < 48) ⊎ (57 < other)
    → (c == other) ≡ false
digit-differs other c least most (inl below) = ne_eqb c other (λ e. omega (arith, e, below, least))
digit-differs other c least most (inr above) = ne_eqb c other (λ e. omega (arith, e, above, most))

digit_is_word_byte : (c : ℕ) → 48 ≤ c → c ≤ 57 → is_word_byte c ≡ true
digit_is_word_byte c least most =
    λ i. not (low 32 (omega arith) i || low 9 (omega arith) i || low 13 (omega arith) i) &&
    (not (low 10 (omega arith) i) && not (low 35 (omega arith) i))
  where
    low : (other : ℕ) → other < 48 → (c == other) ≡ false
    low other below = digit-differs other c least most (inl below)

some_bytes : (bytes : Bytes) → 0 < length bytes → is_empty bytes ≡ false
some_bytes [] some = absurd (omega (arith, some))
some_bytes (b ∷ more) some = refl

-- a printed number is a word
pub decimal-word : (n : ℕ) → n < 2 ^ 64 → IsWord (decimal n)
decimal-word n fits =
    record {
      some = some_bytes (decimal n) (decimal_is_IsNumeral n fits).0.0;
      bytes =
          decimal-pass is_word_byte digit_is_word_byte n fits;
    }

-- and so is a printed number with its sign
pub signed-word : (z : ℤ) → nat_abs z < 2 ^ 64 → IsWord (signed_decimal z)
signed-word (pos n) fits = decimal-word n fits
signed-word (negsuc n) fits =
    record { some = refl; bytes = signed-pass is_word_byte refl digit_is_word_byte (negsuc n) fits }

-- a printed number says its number
pub whole_number_of-decimal : (n : ℕ) → n < 2 ^ 64 → whole_number_of (decimal n) ≡ Some n
whole_number_of-decimal n fits =
    whole_number_of-digits (decimal n) n (some (decimal n) (decimal_is_IsNumeral n fits).0.0)
    (decimal-pass is_ascii_digit (λ c least most. and_from (nat_le 48 c) (nat_le c 57)
    (le-leb 48 c least) (le-leb c 57 most)) n fits)
    (decimal_is_IsNumeral n fits).1 fits
  where
    some : (ds : Bytes) → 0 < length ds → false ≡ (length ds == 0)
    some [] e = absurd (omega (arith, e))
    some (d ∷ ds) e = sym (ne_eqb (suc (length ds)) 0 (λ z. omega (arith, z)))

-- and with its sign, where it fits 64 bits
pub signed_number_of-decimal : (z : ℤ) → nat_abs z < 2 ^ 63 → signed_number_of (signed_decimal z)
    ≡ Some z
signed_number_of-decimal (negsuc n) fits =
    rw (whole_number_of-decimal (suc n) (omega (arith, fits)))
    (negated_number-small (suc n) (omega (arith, fits)))
signed_number_of-decimal (pos n) fits =
    go (decimal n) (decimal-word n wide).some
    (decimal-pass (λ c. not (c == 45))
    (λ c least most. ap not (digit-differs 45 c least most (inl (omega arith)))) n wide)
    (whole_number_of-decimal n wide)
  where
    wide : n < 2 ^ 64
    wide = omega (arith, fits)

    go : (digits : Bytes) → is_empty digits ≡ false → lacks (λ c. c == 45) digits ≡ true
        → whole_number_of digits ≡ Some n → signed_number_of digits ≡ Some (pos n)
    go [] some unsigned says = absurd (let clash : true ≡ false = some in cc)
    go (d ∷ ds) some unsigned says =
        rw (
          not-true (d == 45) (and_parts (not (d == 45)) (lacks (λ c. c == 45) ds) unsigned).0,
          says,
        ) (plain_number-small n fits)
