-- The truth values of tracks, each by its place.
use Rattle.std.proofs.Common.{◌≡◌, ℕ, zero, suc, ◌+◌, ◌*◌, ◌/◌, ◌%◌, ◌<◌, ◌≤◌, Bool, true, false, List, length, get_or, refl, sym, subst, ◌∙◌, inl, inr, arith, mul_comm}
use Rattle.std.specs.Prelude.{◌==◌}
use Rattle.std.specs.List.{enumerate_from}
use Rattle.std.proofs.Math.Nat.{div-lt_iff_lt-mul, mod-lt, mul-le-mul_right}
use Rattle.std.proofs.lemmas.Bool.{cases_lt, false≢true}
use Rattle.std.proofs.lemmas.Bool.Decides.{Decides-eqb}
use Rattle.std.proofs.lemmas.List.{ext_get_or}
use Rattle.std.proofs.lemmas.List.FromFn.{get_or-map-range_with_len, length-map-range_with_len}
use Rattle.std.proofs.lemmas.Option.{get_or_from_slice_get, slice_get_within}
use Rattle.list_laws.proofs.Members.{In, In-list_any, list_any-from_In}
use Rattle.list_laws.proofs.Numbered.{In-enumerate, from_In-enumerate}
use Rattle.route_encode.specs.Bits.{bits, is_taken}
use Rattle.route_encode.specs.Encoding.{place_of}
use Rattle.route_encode.specs.Said.{says}

-- the places of a slot's tracks stand before those of a later slot
place-before : (width s t u v : ℕ) → t < width → s < u → place_of width s t < place_of width u v
place-before width s t u v inside before =
    let row : (s + 1) * width ≤ u * width =
    mul-le-mul_right width (let f : s + 1 ≤ u = omega (arith, before) in f) in
    let next : (s + 1) * width ≡ s * width + width = omega arith in
    omega (arith, row, next, inside)

-- the place of a slot's track is among those of all slots
pub place-inside : (count width s t : ℕ) → s < count → t < width →
    place_of width s t < count * width
place-inside count width s t low inside =
    let end : place_of width count 0 ≡ count * width = omega arith in
    subst (λ (n : ℕ). place_of width s t < n) end (place-before width s t count 0 inside low)

pub length-bits : (width : ℕ) (tracks : List ℕ) →
    length (bits width tracks) ≡ length tracks * width
length-bits width tracks =
    length-map-range_with_len (is_taken width tracks) 0 (length tracks * width)

-- a place that is taken is that of some slot's track
taken-by : (width : ℕ) (tracks : List ℕ) (place : ℕ) → is_taken width tracks place ≡ true →
    (k : ℕ) × (k < length tracks) × (place_of width k (get_or tracks k 0) ≡ place)
taken-by width tracks place h =
    let some = In-list_any (λ (slot : ℕ × ℕ). place_of width slot.0 slot.1 == place)
    (enumerate_from 0 tracks) h in
    let at = from_In-enumerate 0 tracks some.0 some.1 in
    let number : some.0.0 ≡ at.0 = omega (arith, at.1) in
    let track : get_or tracks at.0 0 ≡ some.0.1 =
    get_or_from_slice_get tracks at.0 some.0.1 0 at.2 in
    let here : place_of width some.0.0 some.0.1 ≡ place =
    (Decides-eqb (place_of width some.0.0 some.0.1) place).0 some.2 in
    (at.0, slice_get_within tracks at.0 some.0.1 at.2, rw (track, ← number) here)

-- the place of each slot's track is taken
taken-here : (width : ℕ) (tracks : List ℕ) (k : ℕ) → k < length tracks →
    is_taken width tracks (place_of width k (get_or tracks k 0)) ≡ true
taken-here width tracks k inside =
    let place : ℕ = place_of width k (get_or tracks k 0) in
    list_any-from_In (λ (slot : ℕ × ℕ). place_of width slot.0 slot.1 == place)
    (enumerate_from 0 tracks) (k, get_or tracks k 0)
    (subst (λ (n : ℕ). In (enumerate_from 0 tracks) (n, get_or tracks k 0)) (omega arith)
    (In-enumerate 0 tracks k 0 inside))
    ((Decides-eqb place place).1 refl)

-- what the bits say is whether the place is taken
says-taken : (width : ℕ) (tracks : List ℕ) (s t : ℕ) → s < length tracks → t < width →
    says (bits width tracks) width s t ≡ is_taken width tracks (place_of width s t)
says-taken width tracks s t low inside =
    get_or-map-range_with_len (is_taken width tracks) 0 (length tracks * width)
    (place_of width s t) (place_of width s t) false
    (place-inside (length tracks) width s t low inside) (omega arith)

-- where the tracks so far are below the width, the track at a taken place is the slot's own
taken-own : (width : ℕ) (tracks : List ℕ) (s t : ℕ) → t < width →
    ((k : ℕ) → k < s → k < length tracks → get_or tracks k 0 < width) →
    is_taken width tracks (place_of width s t) ≡ true → t ≡ get_or tracks s 0
taken-own width tracks s t inside below h =
    let by = taken-by width tracks (place_of width s t) h in
    let track : ℕ = get_or tracks by.0 0 in
    elim (cases_lt by.0 s) [
      | inl before ↦
          (let f = place-before width by.0 track s t (below by.0 before by.1) before in
          absurd (omega (arith, f, by.2)))
      | inr not_before ↦ elim (cases_lt s by.0) [
        | inl behind ↦
            (let f = place-before width s t by.0 track inside behind in
            absurd (omega (arith, f, by.2)))
        | inr not_behind ↦
            (let same : by.0 ≡ s = omega (arith, not_before, not_behind) in
            let place : place_of width s (get_or tracks s 0) ≡ place_of width s t =
            subst (λ (n : ℕ). place_of width n (get_or tracks n 0)
            ≡ place_of width s t) same by.2 in
            omega (arith, place))
      ]
    ]

-- of tracks below the width, the value of each slot and track is whether the slot has that track
pub says-bits : (width : ℕ) (tracks : List ℕ) (s t : ℕ) →
    ((k : ℕ) → k < length tracks → get_or tracks k 0 < width) → s < length tracks → t < width →
    says (bits width tracks) width s t ≡ (t == get_or tracks s 0)
says-bits width tracks s t within low inside =
    says-taken width tracks s t low inside
    ∙ go (is_taken width tracks (place_of width s t)) (t == get_or tracks s 0) refl refl
  where
    go : (b c : Bool) → is_taken width tracks (place_of width s t) ≡ b →
        (t == get_or tracks s 0) ≡ c → b ≡ c
    go true true e f = refl
    go false false e f = refl
    go true false e f =
        let own = taken-own width tracks s t inside (λ k before here. within k here) e in
        absurd (false≢true (sym f ∙ (Decides-eqb t (get_or tracks s 0)).1 own))
    go false true e f =
        let own : t ≡ get_or tracks s 0 = (Decides-eqb t (get_or tracks s 0)).0 f in
        absurd (false≢true
        (sym e ∙ subst (λ (u : ℕ). is_taken width tracks (place_of width s u) ≡ true)
        (sym own) (taken-here width tracks s low)))

-- where the bits say a track below the width of each slot, all tracks are below the width
pub bits-within : (width : ℕ) (tracks : List ℕ) →
    ((s : ℕ) → s < length tracks →
    (t : ℕ) × (t < width) × (says (bits width tracks) width s t ≡ true)) →
    (k : ℕ) → k < length tracks → get_or tracks k 0 < width
bits-within width tracks some k low = front (suc k) k (omega arith) low
  where
    front : (n k : ℕ) → k < n → k < length tracks → get_or tracks k 0 < width
    front zero k early low = absurd (omega (arith, early))
    front (suc n) k early low =
        let one = some k low in
        let taken : is_taken width tracks (place_of width k one.0) ≡ true =
        sym (says-taken width tracks k one.0 low one.1) ∙ one.2 in
        let own = taken-own width tracks k one.0 one.1
        (λ j before here. front n j (omega (arith, before, early)) here) taken in
        subst (λ (t : ℕ). t < width) own one.1

-- two lists of values for as many slots are equal where they say the same of each slot and track
pub same-values : (width count : ℕ) (a b : List Bool) → length a ≡ count * width →
    length b ≡ count * width →
    ((s t : ℕ) → s < count → t < width → says a width s t ≡ says b width s t) → a ≡ b
same-values zero count a b len_a len_b h =
    ext_get_or false a b (len_a ∙ sym len_b) (λ k low. absurd (omega (arith, low, len_a)))
same-values (suc w) count a b len_a len_b h =
    ext_get_or false a b (len_a ∙ sym len_b) (λ k low.
    let s : ℕ = k / suc w in
    let t : ℕ = k % suc w in
    let place : s * suc w + t ≡ k = omega (arith, mul_comm s (suc w)) in
    let inside : k < count * suc w = omega (arith, low, len_a) in
    let in_s : s < count = (div-lt_iff_lt-mul (omega arith)).1 inside in
    let in_t : t < suc w = mod-lt k (omega arith) in
    subst (λ (n : ℕ). get_or a n false ≡ get_or b n false) place (h s t in_s in_t))
