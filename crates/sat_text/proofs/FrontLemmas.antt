-- Numbers are taken from the front of a line, one after another.
use Rattle.std.proofs.Common.{◌≡◌, ◌≤◌, zero, suc, ℤ, pos, negsuc, Bool, false, true, List, [], ◌∷◌, ◌++◌, drop, slice_get, Option, None, Some, refl, sym, ap, ◌∙◌, arith, append_assoc, w32, w64, to_z, of_z, FitsSigned}
use Rattle.std.specs.Prelude.{All, nat_abs, bytes_eq, option_and_then}
use Rattle.std.specs.Int.Signed.{lt_z}
use Rattle.std.proofs.lemmas.Int.{to_z-of_z}
use Rattle.std.proofs.lemmas.List.Elements.{All-append}
use Rattle.std.proofs.lemmas.Slice.Eq.{bytes_eq-Decides}
use Rattle.fpga_text.specs.Bytes.{Bytes, is_empty}
use Rattle.fpga_text.specs.Numbers.{signed_number_of}
use Rattle.fpga_text.specs.Words.{Words}
use Rattle.fpga_text.proofs.NumberLemmas.{signed_fits}
use Rattle.sat_clause.specs.Literal.{IsWithin, lit}
use Rattle.sat_text.specs.FrontNumbers.{TakesFront}
use Rattle.sat_text.specs.Numbers.{lacks_number, numbers_of}
use Rattle.sat_text.specs.ReadBack.{IsIdNumber}

-- nothing was taken
pub front_none : (words : Words) → TakesFront words words []
front_none words = record { lacks = refl; said = refl }

-- one more number is taken
pub front_more : (old now new : Words) (numbers : List ℤ) (n : ℤ) → TakesFront old now numbers
    → Some n ≡ option_and_then signed_number_of (slice_get now 0) → new ≡ drop 1 now
    → TakesFront old new (numbers ++ n ∷ [])
front_more old [] new numbers n front said rest = absurd (let clash : Some n ≡ None = said in cc)
front_more old (word ∷ words) new numbers n front said rest = record {
  lacks = front.lacks ∙ rw (rest, ← said) refl;
  said = front.said ∙ rw (rest, ← said) (sym (append_assoc numbers (n ∷ []) (numbers_of words)));
}

-- one number is taken
pub front_one : (now new : Words) (n : ℤ) → Some n
    ≡ option_and_then signed_number_of (slice_get now 0) → new ≡ drop 1 now
    → TakesFront now new (n ∷ [])
front_one now new n said rest = front_more now now new [] n (front_none now) said rest

-- the numbers of two fronts are those of both
pub front_both : {old now new : Words} {first second : List ℤ} → TakesFront old now first
    → TakesFront now new second → TakesFront old new (first ++ second)
front_both {old} {now} {new} {first} {second} one two = record {
  lacks = one.lacks ∙ two.lacks;
  said = one.said ∙ ap (λ (ns : List ℤ). first ++ ns) two.said
      ∙ sym (append_assoc first second (numbers_of new));
}

no_words : (words : Words) → is_empty words ≡ true → words ≡ []
no_words [] none = refl
no_words (word ∷ more) none = absurd (let clash : false ≡ true = none in cc)

-- a word that is a letter says no number, so a line of numbers has none
pub not_letter : (word letter : Bytes) (more : Words) → signed_number_of letter ≡ None
    → lacks_number (word ∷ more) ≡ false → bytes_eq word letter ≡ false
not_letter word letter more none number = go (bytes_eq word letter) refl where
  go : (b : Bool) → bytes_eq word letter ≡ b → b ≡ false
  go false e = refl
  go true e = absurd (let same : word ≡ letter =
      (bytes_eq-Decides word letter).0 e in let clash : true ≡ false =
      rw (same, none) at number in cc)

-- a number that a word says stands in 64 bits as it is
pub same_number : (word : Option Bytes) (n : ℤ) → Some n ≡ option_and_then signed_number_of word
    → to_z w64 (of_z w64 n) ≡ n
same_number word n said = to_z-of_z w64 n (signed_fits word n said)

-- and a literal's number in 32
pub same_literal : (n : ℤ) → nat_abs n ≤ 100000000 → to_z w32 (of_z w32 n) ≡ n
same_literal n few = to_z-of_z w32 n (fits n few) where
  fits : (z : ℤ) → nat_abs z ≤ 100000000 → FitsSigned w32 z
  fits (pos k) h = omega (arith, h)
  fits (negsuc k) h = omega (arith, h)

-- its bits are 0 where it is 0
pub zero_number : (word : Option Bytes) (n : ℤ) → Some n ≡ option_and_then signed_number_of word
    → of_z w64 n ≡ 0 → n ≡ pos 0
zero_number word n said none = sym (same_number word n said) ∙ ap (to_z w64) none

-- a number that is neither 0 nor past its limit is a literal's
pub literal_within : (n : ℤ) → (of_z w64 n ≡ 0 → ⊥) → nat_abs n ≤ 100000000
    → IsWithin 100000000 (lit n)
literal_within (pos zero) some few = absurd (some refl)
literal_within (pos (suc n)) some few = (omega arith, few)
literal_within (negsuc n) some few = (omega arith, few)

-- a number that is neither negative nor 0 nor past its limit is an id
pub hint_id : (n : ℤ) → (of_z w64 n ≡ 0 → ⊥) → lt_z n (pos 0) ≡ false → nat_abs n ≤ 4294967295
    → IsIdNumber n
hint_id (pos zero) some sign few = absurd (some refl)
hint_id (pos (suc n)) some sign few =
    record { id = suc n; is = refl; some = omega arith; few = few }
hint_id (negsuc n) some sign few = absurd (let clash : true ≡ false = sign in cc)

-- what holds of the numbers so far and of one more holds of all
pub all_more : {X : Type 0} (P : X → Type 0) (xs : List X) (x : X) → All P xs → P x
    → All P (xs ++ x ∷ [])
all_more P xs x all one = All-append P xs (x ∷ []) all go where
  go : All P (x ∷ [])
  go zero d inside = one
  go (suc k) d inside = absurd (omega arith)
