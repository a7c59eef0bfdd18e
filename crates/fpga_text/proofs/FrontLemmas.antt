-- What a scan of the front of a text has found.
use Rattle.std.proofs.Common.{◌≡◌, ◌<◌, ◌≤◌, ◌+◌, ◌-◌, ◌*◌, ◌^◌, ℕ, zero, suc, Bool, true, false, [], ◌∷◌, length, take, drop, slice_index, Some, None, ℤ, pos, negsuc, nat_abs, FitsSigned, w64, refl, sym, ap, ◌∙◌, arith, add-one}
use Rattle.std.specs.Prelude.{◌==◌, neg_ℤ, IsTrue}
use Rattle.std.proofs.lemmas.Bool.{ne_eqb}
use Rattle.std.specs.List.{after_first, before_first, list_all, position_or_len}
use Rattle.std.specs.Char.{is_ascii_digit}
use Rattle.std.specs.Str.Parse.{digits_value}
use Rattle.std.proofs.lemmas.Grind.{pow_more}
use Rattle.std.proofs.lemmas.List.{drop_all, get_or-take, length-drop, length-take-le, take_all}
use Rattle.std.proofs.lemmas.List.Folds.{list_all_at}
use Rattle.std.proofs.lemmas.List.Sums.{position_or_len_is}
use Rattle.fpga_text.specs.Bytes.{Bytes, is_blank}
use Rattle.fpga_text.specs.Numbers.{signed_number_of, whole_number_of}
use Rattle.fpga_text.specs.Words.{begins_word, words}
use Rattle.fpga_text.proofs.CutLemmas.{position_or_len-cons_no, words-part}
use Rattle.fpga_text.proofs.NumberLemmas.{negated_number-small, plain_number-small, whole_number_of-digits}

-- a digit is no blank
pub digit_no_blank : (b : ℕ) → is_ascii_digit b ≡ true → is_blank b ≡ false
digit_no_blank b digit = grind arith

-- each of the front bytes is a digit
pub front_digit : (text : Bytes) (i k : ℕ) → i ≤ length text → list_all is_ascii_digit (take i text)
    ≡ true → k < i → is_ascii_digit (slice_index text k) ≡ true
front_digit text i k within all below = go (is_ascii_digit (slice_index text k)) refl where
  go : (b : Bool) → is_ascii_digit (slice_index text k) ≡ b → is_ascii_digit (slice_index text k)
      ≡ true
  go true e = e
  go false e =
      absurd (let clash : false ≡ true =
      sym (list_all_at is_ascii_digit (take i text) k 0
      (omega (arith, below, length-take-le i text within))
      (ap is_ascii_digit (get_or-take i text k 0 below) ∙ e)) ∙ all in cc)

-- digits are followed by a blank, or by nothing
pub digits_end : (text : Bytes) (i : ℕ) → i ≤ length text → list_all is_ascii_digit (take i text)
    ≡ true → (i < length text → is_blank (slice_index text i) ≡ true)
    → i ≡ position_or_len is_blank text
digits_end text i within all ends =
    sym (position_or_len_is is_blank text i 0 within
    (λ k below. digit_no_blank (slice_index text k) (front_digit text i k within all below)) ends)

pow_up : (i d : ℕ) → 10 ^ i ≤ 10 ^ (i + d)
pow_up i zero = let same : i + 0 ≡ i = omega arith in rw same (omega arith)
pow_up i (suc d) = let same : i + suc d ≡ i + d + 1 = omega arith in let here = pow_up i d in
    rw (same, pow_more 10 (i + d)) (omega (arith, here))

-- so few digits say less than this
pub few_digits : (i most size : ℕ) → i ≤ most → size < 10 ^ i → size < 10 ^ most
few_digits i most size few small =
    let same : i + (most - i) ≡ most = omega (arith, few) in
    let up = rw same at (pow_up i (most - i)) in
    omega (arith, small, up)

-- one more digit
pub more_small : (i size digit : ℕ) → size < 10 ^ i → digit < 10 → size * 10 + digit < 10 ^ (i + 1)
more_small i size digit small one = rw (pow_more 10 i) (omega (arith, small, one))

-- digits stand before a place, which is that of the first blank, and say this size
pub record IsDigits (text : Bytes) (i size : ℕ) : Type 0 where
  pub within : i ≤ length text
  pub digits : list_all is_ascii_digit (take i text) ≡ true
  pub says : digits_value 10 (take i text) ≡ size
  pub small : size < 10 ^ 18
  pub some : i ≡ 0 → ⊥
  pub ends : i < length text → is_blank (slice_index text i) ≡ true

-- a place among the bytes that are looked at
pub record IsLookedAt (text : Bytes) (looked i : ℕ) : Type 0 where
  pub few : i < 18
  pub inside : i < length text
  pub seen : i < looked

pub looked_at : (text : Bytes) (looked i : ℕ) → looked ≤ length text → looked ≤ 18
    → i < length (take looked text) → IsLookedAt text looked i
looked_at text looked i within most inside =
    let size = length-take-le looked text within in
    record {
      few = omega (arith, most, inside, size);
      inside = omega (arith, within, inside, size);
      seen = omega (arith, inside, size);
    }

-- a space ends the digits
pub digits_stop : (text : Bytes) (looked i size : ℕ) → looked ≤ length text → looked ≤ 18
    → i < length (take looked text) → list_all is_ascii_digit (take i text) ≡ true
    → digits_value 10 (take i text) ≡ size → size < 10 ^ i → (i ≡ 0 → ⊥)
    → slice_index (take looked text) i ≡ 32 → IsDigits text i size
digits_stop text looked i size within most inside all says small some space =
    let at = looked_at text looked i within most inside in
    record {
      within = omega (arith, at.inside);
      digits = all;
      says = says;
      small = few_digits i 18 size (omega (arith, at.few)) small;
      some = some;
      ends = λ _. ap is_blank (sym (get_or-take looked text i 0 at.seen) ∙ space);
    }

all_some : (text : Bytes) (i : ℕ) → false ≡ (length text == 0) → i ≡ length text → i ≡ 0 → ⊥
all_some text i some end none =
    let clash : false ≡ true = some ∙ ap (λ n. n == 0) (sym end ∙ none) in cc

-- the text ends with the digits
pub digits_whole : (text : Bytes) (looked i size : ℕ) → looked ≤ length text
    → i ≤ length (take looked text) → length (take looked text) ≤ i → looked ≤ 17
    → length text ≤ looked → list_all is_ascii_digit (take i text) ≡ true
    → digits_value 10 (take i text) ≡ size → size < 10 ^ i → false ≡ (length text == 0)
    → IsDigits text i size
digits_whole text looked i size within low high few whole all says small some =
    let length : length (take looked text) ≡ looked = length-take-le looked text within in
    record {
      within = omega (arith, low, length, within);
      digits = all;
      says = says;
      small = few_digits i 18 size (omega (arith, low, length, few)) small;
      some = all_some text i some (omega (arith, low, high, length, whole, within));
      ends = λ inside. absurd (omega (arith, inside, high, length, whole));
    }

digits_at : (text : Bytes) (i size : ℕ) → IsDigits text i size → i ≡ position_or_len is_blank text
digits_at text i size is = digits_end text i is.within is.digits is.ends

-- a slice from a place on
pub rest_all : (text : Bytes) (n : ℕ) → take (length text - n) (drop n text) ≡ drop n text
rest_all text n = take_all (length text - n) (drop n text) (omega (arith, length-drop n text))

-- the first word is the digits
pub front_size : (text : Bytes) (i size : ℕ) → IsDigits text i size
    → whole_number_of (before_first is_blank text) ≡ Some size
front_size text i size is =
    ap (λ n. whole_number_of (take n text)) (sym (digits_at text i size is))
    ∙ whole_number_of-digits (take i text) size
    (sym (ap (λ n. n == 0) (length-take-le i text is.within) ∙ ne_eqb i 0 is.some)) is.digits
    is.says (omega (arith, is.small))

-- the others stand behind them
pub front_behind : (text behind : Bytes) (i size : ℕ) → IsDigits text i size
    → words behind ≡ words (drop (i + 1) text) → words behind ≡ words (after_first is_blank text)
front_behind text behind i size is same =
    same ∙ ap (λ n. words (drop (n + 1) text)) (digits_at text i size is)

-- none do where the text has ended
pub front_ended : (text : Bytes) (looked i size : ℕ) → IsDigits text i size → looked ≤ length text
    → length (take looked text) ≤ i → length text ≤ looked
    → words [] ≡ words (after_first is_blank text)
front_ended text looked i size is within high whole =
    let length : length (take looked text) ≡ looked = length-take-le looked text within in
    front_behind text [] i size is
    (ap (λ (t : Bytes). words t)
    (sym (drop_all (i + 1) text (omega (arith, high, length, whole)))))

-- a minus sign is no blank
minus_place : (text behind : Bytes) → text ≡ 45 ∷ behind
    → position_or_len is_blank text ≡ position_or_len is_blank behind + 1
minus_place text behind is =
    ap (λ (t : Bytes). position_or_len is_blank t) is
    ∙ position_or_len-cons_no is_blank 45 behind refl
    ∙ sym (add-one (position_or_len is_blank behind))

-- the words behind the first are the same without it
pub minus_behind : (text behind : Bytes) → text ≡ 45 ∷ behind
    → words (after_first is_blank behind) ≡ words (after_first is_blank text)
minus_behind text behind is =
    let place : ℕ = position_or_len is_blank behind in
    ap (λ n. words (drop n behind)) (add-one place)
    ∙ ap (λ n. words (drop n (45 ∷ behind))) (sym (add-one (suc place)))
    ∙ ap (λ n. words (drop (n + 1) (45 ∷ behind)))
    (sym (position_or_len-cons_no is_blank 45 behind refl))
    ∙ ap (λ (t : Bytes). words (after_first is_blank t)) (sym is)

-- a minus sign, and digits behind it
pub signed_number_of-minus : (text behind : Bytes) (size : ℕ) → text ≡ 45 ∷ behind
    → whole_number_of (before_first is_blank behind) ≡ Some size → size < 10 ^ 18
    → signed_number_of (before_first is_blank text) ≡ Some (neg_ℤ (pos size))
signed_number_of-minus text behind size is said small =
    ap (λ n. signed_number_of (take n text)) (minus_place text behind is)
    ∙ rw (is, add-one, said) (negated_number-small size (omega (arith, small)))

-- digits without a sign
pub signed_number_of-plain : (text behind : Bytes) (b len size : ℕ) → text ≡ b ∷ behind
    → (b ≡ 45 → ⊥) → whole_number_of (take len text) ≡ Some size → size < 10 ^ 18
    → signed_number_of (take len text) ≡ Some (pos size)
signed_number_of-plain text behind b zero size is other said small =
    absurd (let clash : None ≡ Some size = said in cc)
signed_number_of-plain text behind b (suc len) size is other said small =
    let whole : whole_number_of (b ∷ take len behind) ≡ Some size = (rw is at said) in
    rw (is, ne_eqb b 45 other, whole) (plain_number-small size (omega (arith, small)))

some_length : (b : ℕ) (more : Bytes) → (length (b ∷ more) == 0) ≡ false
some_length b more = grind arith

-- nothing says no number
number_some : (text : Bytes) (len : ℕ) (value : ℤ) → signed_number_of (take len text)
    ≡ Some value → false ≡ (length text == 0)
number_some [] zero value said = absurd (let clash : None ≡ Some value = said in cc)
number_some [] (suc len) value said = absurd (let clash : None ≡ Some value = said in cc)
number_some (b ∷ more) len value said = sym (some_length b more)

-- the first word says a number, and the others stand behind it
pub number_cut : (text : Bytes) (value : ℤ) → signed_number_of (before_first is_blank text)
    ≡ Some value → IsTrue (begins_word text)
    → words text ≡ before_first is_blank text ∷ words (after_first is_blank text)
number_cut text value said begins =
    words-part text (before_first is_blank text) (after_first is_blank text)
    (position_or_len is_blank text)
    (number_some text (position_or_len is_blank text) value said) begins refl refl refl

-- a small number fits 64 bits with its sign
pub small_fits : (n : ℤ) → nat_abs n < 10 ^ 18 → FitsSigned w64 n
small_fits (pos n) small = omega (arith, small)
small_fits (negsuc n) small = omega (arith, small)
