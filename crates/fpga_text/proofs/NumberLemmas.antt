-- When a word is a number and when it is none, by what a scan has found.
use Rattle.std.proofs.Common.{◌≡◌, ◌<◌, ◌≤◌, ◌+◌, ◌*◌, ◌^◌, ℕ, zero, suc, ℤ, pos, w64, FitsSigned, Bool, true, false, [], ◌∷◌, ◌++◌, length, take, drop, slice_index, Option, Some, None, refl, sym, ap, ◌∙◌, subst, inl, inr, arith, append_assoc}
use Rattle.std.specs.Prelude.{codes, min, not, ◌==◌, nat_le, nat_lt, neg_ℤ, ◌&&◌, option_and_then, if◌then◌else◌}
use Rattle.std.proofs.lemmas.Bool.{and_from, and_parts, cases_lt, le-leb, leb-true, lt-ltb, ltb-true}
use Rattle.std.specs.List.{after_first, before_first, list_all, position_or_len}
use Rattle.std.specs.Char.{digit_value, is_ascii_digit}
use Rattle.std.specs.Str.Parse.{digits_value, digits_value_after}
use Rattle.std.proofs.lemmas.List.{take-append-drop, take_all, take_more}
use Rattle.std.proofs.lemmas.List.Folds.{list_all-append, list_all_more}
use Rattle.std.proofs.lemmas.Int.Digits.{digits_value_more}
use Rattle.fpga_text.specs.Bytes.{Bytes, is_empty}
use Rattle.fpga_text.specs.Numbers.{if_64_bits, is_point, millionths_of, negated_number, plain_number, signed_number_of, six_digits, whole_number_of, with_digits}

-- one more digit
pub digits-more : (word : Bytes) (i value digit next : ℕ) → i < length word
    → digits_value 10 (take i word) ≡ value → digit ≡ digit_value (slice_index word i)
    → next ≡ value * 10 + digit → digits_value 10 (take (i + 1) word) ≡ next
digits-more word i value digit next within so_far said more =
    rw (digits_value_more 10 word i within) (cc)

-- and it is a digit
pub list_all-more : (word : Bytes) (i : ℕ) → i < length word → list_all is_ascii_digit (take i word)
    ≡ true → is_ascii_digit (slice_index word i) ≡ true
    → list_all is_ascii_digit (take (i + 1) word) ≡ true
list_all-more word i within so_far said =
    rw (list_all_more is_ascii_digit word i 0 within, so_far, said) refl

-- digits that follow others
digits_value_after-append : (n : ℕ) (a b : Bytes) → digits_value_after 10 n (a ++ b)
    ≡ digits_value_after 10 (digits_value_after 10 n a) b
digits_value_after-append n [] b = refl
digits_value_after-append n (d ∷ a) b = digits_value_after-append (n * 10 + digit_value d) a b

digits_value_after-least : (n : ℕ) (ds : Bytes) → n ≤ digits_value_after 10 n ds
digits_value_after-least n [] = omega arith
digits_value_after-least n (d ∷ ds) =
    omega (arith, digits_value_after-least (n * 10 + digit_value d) ds)

digits_value_after-front : (n : ℕ) (ds : Bytes) (i : ℕ) → digits_value_after 10 n (take i ds)
    ≤ digits_value_after 10 n ds
digits_value_after-front n ds i =
    subst (λ all. digits_value_after 10 n (take i ds) ≤ digits_value_after 10 n all)
    (take-append-drop i ds)
    (rw (digits_value_after-append n (take i ds) (drop i ds))
    (digits_value_after-least (digits_value_after 10 n (take i ds)) (drop i ds)))

digits_value_after-more : (n : ℕ) (ds : Bytes) (i : ℕ) → i < length ds
    → digits_value_after 10 n (take (i + 1) ds)
    ≡ digits_value_after 10 n (take i ds) * 10 + digit_value (slice_index ds i)
digits_value_after-more n ds i within =
    rw (take_more ds i 0 within, digits_value_after-append n (take i ds) (slice_index ds i ∷ []))
    refl

-- a value that fits 64 bits
if_64_bits-small : (n : ℕ) → n < 2 ^ 64 → if_64_bits n ≡ Some n
if_64_bits-small n small = ap (λ b. if b then Some n else None) (lt-ltb n (2 ^ 64) small)

if_64_bits-great : (n : ℕ) → 2 ^ 64 ≤ n → if_64_bits n ≡ None
if_64_bits-great n great = go (nat_lt n (2 ^ 64)) refl
  where
    go : (b : Bool) → nat_lt n (2 ^ 64) ≡ b → (if b then Some n else None) ≡ None
    go true e = absurd (grind arith)
    go false e = refl

-- so many digits follow a number, and this is the value with them
pub record IsFollowed (number : Option ℕ) (digits : Bytes) (i value : ℕ) : Type 0 where
  pub first : ℕ
  pub was : number ≡ Some first
  pub all : list_all is_ascii_digit (take i digits) ≡ true
  pub says : digits_value_after 10 first (take i digits) ≡ value
  pub fits : value < 2 ^ 64

-- the value with one more digit
pub followed-value : (number : Option ℕ) (digits : Bytes) (i value digit : ℕ)
    → (so_far : IsFollowed number digits i value) → i < length digits → digit
    ≡ digit_value (slice_index digits i)
    → digits_value_after 10 so_far.first (take (i + 1) digits) ≡ value * 10 + digit
followed-value number digits i value digit so_far within is =
    digits_value_after-more so_far.first digits i within
    ∙ rw (so_far.says, is) refl

-- it passes 64 bits
pub followed-great : (number : Option ℕ) (digits : Bytes) (i value digit : ℕ)
    → IsFollowed number digits i value → i < length digits → digit
    ≡ digit_value (slice_index digits i)
    → 2 ^ 64 ≤ value * 10 + digit → with_digits number digits ≡ None
followed-great number digits i value digit so_far within is great =
    rw so_far.was (go (list_all is_ascii_digit digits))
  where
    more : digits_value_after 10 so_far.first (take (i + 1) digits) ≡ value * 10 + digit
    more = followed-value number digits i value digit so_far within is

    passes : 2 ^ 64 ≤ digits_value_after 10 so_far.first digits
    passes = omega (arith, great, more, digits_value_after-front so_far.first digits (i + 1))

    go : (b : Bool)
        → (if b then if_64_bits (digits_value_after 10 so_far.first digits) else None) ≡ None
    go true = if_64_bits-great (digits_value_after 10 so_far.first digits) passes
    go false = refl

-- it fits
pub followed-more : (number : Option ℕ) (digits : Bytes) (i value digit next : ℕ)
    → IsFollowed number digits i value → i < length digits
    → is_ascii_digit (slice_index digits i) ≡ true → digit ≡ digit_value (slice_index digits i)
    → next ≡ value * 10 + digit → next < 2 ^ 64 → IsFollowed number digits (i + 1) next
followed-more number digits i value digit next so_far within passes is more fits = record {
  first = so_far.first;
  was = so_far.was;
  all = list_all-more digits i within so_far.all passes;
  says = followed-value number digits i value digit so_far within is ∙ sym more;
  fits = fits;
}

-- digits that say no more than fits
pub whole_number_of-digits : (word : Bytes) (value : ℕ) → false ≡ (length word == 0)
    → list_all is_ascii_digit word ≡ true → digits_value 10 word ≡ value → value < 2 ^ 64
    → whole_number_of word ≡ Some value
whole_number_of-digits [] value some digits says fits =
    absurd (let clash : false ≡ true = some in cc)
whole_number_of-digits (b ∷ more) value some digits says fits =
    rw (digits, says) (if_64_bits-small value fits)

-- digits may be put to a number part by part
pub with_digits-append : (n : ℕ) (a b : Bytes) → with_digits (with_digits (Some n) a) b
    ≡ with_digits (Some n) (a ++ b)
with_digits-append n a b =
    rw (list_all-append is_ascii_digit a b, digits_value_after-append n a b)
    (by_digits (list_all is_ascii_digit a))
  where
    great : (v : ℕ) → 2 ^ 64 ≤ v → (u : Bool)
        → (if u then if_64_bits (digits_value_after 10 v b) else None) ≡ None
    great v past true =
        if_64_bits-great (digits_value_after 10 v b)
        (omega (arith, past, digits_value_after-least v b))
    great v past false = refl

    by_size : (v : ℕ) → with_digits (if_64_bits v) b
        ≡ (if list_all is_ascii_digit b then if_64_bits (digits_value_after 10 v b) else None)
    by_size v = elim (cases_lt v (2 ^ 64)) [
      | inl small ↦ ap (λ o. with_digits o b) (if_64_bits-small v small)
      | inr past ↦ ap (λ o. with_digits o b) (if_64_bits-great v past)
          ∙ sym (great v past (list_all is_ascii_digit b))
    ]

    by_digits : (t : Bool)
        → with_digits (if t then if_64_bits (digits_value_after 10 n a) else None) b
        ≡ (if t && list_all is_ascii_digit b
        then if_64_bits (digits_value_after 10 (digits_value_after 10 n a) b)
        else None)
    by_digits true = by_size (digits_value_after 10 n a)
    by_digits false = refl

-- of digits a front part and a back part are digits
all_take : (n : ℕ) (ds : Bytes) → list_all is_ascii_digit ds ≡ true
    → (list_all is_ascii_digit (take n ds) ≡ true) × (list_all is_ascii_digit (drop n ds) ≡ true)
all_take n ds all =
    and_parts (list_all is_ascii_digit (take n ds)) (list_all is_ascii_digit (drop n ds))
    (sym (list_all-append is_ascii_digit (take n ds) (drop n ds))
    ∙ ap (list_all is_ascii_digit) (take-append-drop n ds) ∙ all)

take_min : (ds : Bytes) → take (min (length ds) 6) ds ≡ take 6 ds
take_min ds = elim (cases_lt (length ds) 6) [
  | inl few ↦
      let same : min (length ds) 6 ≡ length ds = grind (arith, few) in
      rw same (take_all (length ds) ds (omega arith) ∙ sym (take_all 6 ds (omega (arith, few))))
  | inr many ↦
      let same : min (length ds) 6 ≡ 6 = grind (arith, many) in rw same refl
]

-- six digits are the first six that there are, and zeros
six_digits-is : (ds : Bytes) → take 6 ds ++ drop (length (take 6 ds)) (codes "000000")
    ≡ six_digits ds
six_digits-is [] = refl
six_digits-is (a ∷ []) = refl
six_digits-is (a ∷ b ∷ []) = refl
six_digits-is (a ∷ b ∷ c ∷ []) = refl
six_digits-is (a ∷ b ∷ c ∷ d ∷ []) = refl
six_digits-is (a ∷ b ∷ c ∷ d ∷ e ∷ []) = refl
six_digits-is (a ∷ b ∷ c ∷ d ∷ e ∷ f ∷ more) = refl

six_are_digits : (ds : Bytes) → list_all is_ascii_digit ds ≡ true
    → list_all is_ascii_digit (six_digits ds) ≡ true
six_are_digits ds all =
    ap (list_all is_ascii_digit) (sym (six_digits-is ds))
    ∙ list_all-append is_ascii_digit (take 6 ds) (drop (length (take 6 ds)) (codes "000000"))
    ∙ and_from (list_all is_ascii_digit (take 6 ds)) _ (all_take 6 ds all).0
    (all_take (length (take 6 ds)) (codes "000000") refl).1

-- a text is not empty where one of its parts is not
pub some-front : (a b : Bytes) → false ≡ (length a == 0) → is_empty (a ++ b) ≡ false
some-front [] b some = absurd (let clash : false ≡ true = some in cc)
some-front (c ∷ a) b some = refl

pub some-back : (a b : Bytes) → false ≡ (length b == 0) → is_empty (a ++ b) ≡ false
some-back [] [] some = absurd (let clash : false ≡ true = some in cc)
some-back [] (c ∷ b) some = refl
some-back (c ∷ a) b some = refl

-- a word whose parts before and behind the first point are these
pub record IsSplit (word whole part : Bytes) : Type 0 where
  pub before : before_first is_point word ≡ whole
  pub behind : after_first is_point word ≡ part

pub split-at : (word whole part : Bytes) (place : ℕ) → place ≡ position_or_len is_point word
    → whole ≡ take place word → part ≡ drop (place + 1) word → IsSplit word whole part
split-at word whole part place at before behind = record {
  before = ap (λ n. take n word) (sym at) ∙ sym before;
  behind = ap (λ n. drop (n + 1) word) (sym at) ∙ sym behind;
}

millionths-split : (word whole part : Bytes) → IsSplit word whole part → millionths_of word
    ≡ (if not (is_empty (whole ++ part)) && list_all is_ascii_digit (whole ++ part)
    then if_64_bits (digits_value 10 (whole ++ six_digits part))
    else None)
millionths-split word whole part split = rw (split.before, split.behind) refl

-- digits before the point, and digits behind it
pub millionths-digits : (word whole part kept : Bytes) → IsSplit word whole part
    → is_empty (whole ++ part) ≡ false → list_all is_ascii_digit part ≡ true
    → kept ≡ take (min (length part) 6) part
    → with_digits (with_digits (with_digits (Some 0) whole) kept)
    (drop (length kept) (codes "000000"))
    ≡ millionths_of word
millionths-digits word whole part kept split some all is =
    rw (with_digits-append 0 whole kept)
    (with_digits-append 0 (whole ++ kept) (drop (length kept) (codes "000000")))
    ∙ ap (with_digits (Some 0)) (append_assoc whole kept (drop (length kept) (codes "000000"))
    ∙ ap (λ (six : Bytes). whole ++ six) six)
    ∙ ap (λ b. if b then if_64_bits (digits_value 10 (whole ++ six_digits part)) else None) same
    ∙ sym (millionths-split word whole part split)
  where
    first : kept ≡ take 6 part
    first = is ∙ take_min part

    six : kept ++ drop (length kept) (codes "000000") ≡ six_digits part
    six = rw first (six_digits-is part)

    same : list_all is_ascii_digit (whole ++ six_digits part)
        ≡ (not (is_empty (whole ++ part)) && list_all is_ascii_digit (whole ++ part))
    same = rw (
      list_all-append is_ascii_digit whole (six_digits part),
      list_all-append is_ascii_digit whole part,
      some,
      all,
      six_are_digits part all,
    ) refl

-- a number that fits 64 bits with its sign
pub plain_number-small : (n : ℕ) → n < 2 ^ 63 → plain_number n ≡ Some (pos n)
plain_number-small n small = ap (λ b. if b then Some (pos n) else None) (lt-ltb n (2 ^ 63) small)

-- and one that does so with a minus sign
pub negated_number-small : (n : ℕ) → n ≤ 2 ^ 63 → negated_number n ≡ Some (neg_ℤ (pos n))
negated_number-small n small =
    ap (λ b. if b then Some (neg_ℤ (pos n)) else None) (le-leb n (2 ^ 63) small)

plain_fits : (n : ℕ) (z : ℤ) → plain_number n ≡ Some z → FitsSigned w64 z
plain_fits n z said = go (nat_lt n (2 ^ 63)) refl said
  where
    go : (b : Bool) → nat_lt n (2 ^ 63) ≡ b → (if b then Some (pos n) else None) ≡ Some z
        → FitsSigned w64 z
    go true e is =
        let same : pos n ≡ z = cc in subst (FitsSigned w64) same
        (omega (arith, ltb-true n (2 ^ 63) e))
    go false e is = absurd (let clash : None ≡ Some z = is in cc)

negated_fits : (n : ℕ) (z : ℤ) → negated_number n ≡ Some z → FitsSigned w64 z
negated_fits n z said = go (nat_le n (2 ^ 63)) refl said
  where
    neg_fits : (k : ℕ) → k ≤ 2 ^ 63 → FitsSigned w64 (neg_ℤ (pos k))
    neg_fits zero few = omega arith
    neg_fits (suc k) few = omega (arith, few)

    go : (b : Bool) → nat_le n (2 ^ 63) ≡ b → (if b then Some (neg_ℤ (pos n)) else None) ≡ Some z
        → FitsSigned w64 z
    go true e is =
        let same : neg_ℤ (pos n) ≡ z =
        cc in subst (FitsSigned w64) same (neg_fits n (leb-true n (2 ^ 63) e))
    go false e is = absurd (let clash : None ≡ Some z = is in cc)

-- a number that a word says fits 64 bits with its sign
pub signed_fits : (word : Option Bytes) (z : ℤ) → Some z ≡ option_and_then signed_number_of word
    → FitsSigned w64 z
signed_fits None z said = absurd (let clash : Some z ≡ None = said in cc)
signed_fits (Some []) z said = absurd (let clash : Some z ≡ None = said in cc)
signed_fits (Some (b ∷ more)) z said = go (b == 45) (sym said)
  where
    of : (by : ℕ → Option ℤ) → ((n : ℕ) (y : ℤ) → by n ≡ Some y → FitsSigned w64 y) → (o : Option ℕ)
        → option_and_then by o ≡ Some z → FitsSigned w64 z
    of by fits None is = absurd (let clash : None ≡ Some z = is in cc)
    of by fits (Some n) is = fits n z is

    go : (t : Bool) → (if t then option_and_then negated_number (whole_number_of more) else
        option_and_then plain_number (whole_number_of (b ∷ more))) ≡ Some z → FitsSigned w64 z
    go true is = of negated_number negated_fits (whole_number_of more) is
    go false is = of plain_number plain_fits (whole_number_of (b ∷ more)) is
