-- How often a literal stands in a clause and in its first part.
use Rattle.std.proofs.Common.{◌≡◌, ℕ, zero, suc, ◌+◌, ◌<◌, ◌≤◌, Bool, true, false, not, ◌||◌, [], ◌∷◌, length, take, get_or, add-one, refl, arith}
use Rattle.std.specs.Prelude.{if◌then◌else◌}
use Rattle.std.specs.Ordering.{int_eq}
use Rattle.std.proofs.lemmas.Bool.{both_ways}
use Rattle.std.proofs.lemmas.Bool.Decides.{Decides-int_eq}
use Rattle.sat_clause.specs.declared.literal.Lit.{Lit}
use Rattle.sat_clause.specs.Literal.{Clause, is_among}
use Rattle.sat_rat.specs.Counts.{one_if, times}

pub times_more : (l : Lit) (c : Clause) (i : ℕ) (d : Lit) → i < length c →
    times l (take (suc i) c) ≡ times l (take i c) + one_if l (get_or c i d)
times_more l [] i d below = absurd (omega arith)
times_more l (m ∷ c) zero d below = omega arith
times_more l (m ∷ c) (suc i) d below =
    let rest = times_more l c i d (omega (arith, below)) in omega (arith, rest)

pub times_step : (l : Lit) (c : Clause) (i : ℕ) (d : Lit) → i < length c →
    times l (take (i + 1) c) ≡ times l (take i c) + one_if l (get_or c i d)
times_step l c i d below = rw add-one (times_more l c i d below)

pub times_front : (l : Lit) (c : Clause) (i : ℕ) → times l (take i c) ≤ times l c
times_front l c zero = omega arith
times_front l [] (suc i) = omega arith
times_front l (m ∷ c) (suc i) = let rest = times_front l c i in omega (arith, rest)

-- by the test of the code
pub one_by : (l m : Lit) (b : Bool) → b ≡ not (int_eq m.code l.code) →
    one_if l m ≡ (if b then 0 else 1)
one_by l m b is = by (int_eq m.code l.code) b is where
  by : (t b : Bool) → b ≡ not t → ◌≡◌ {A = ℕ} (if t then 1 else 0) (if b then 0 else 1)
  by true true is = absurd (both_ways _ is refl)
  by true false is = refl
  by false true is = refl
  by false false is = absurd (both_ways _ refl is)

pub one_same : (l : Lit) → one_if l l ≡ 1
one_same l = rw ((Decides-int_eq l.code l.code).1 refl) refl

one_small : (b : Bool) → (if b then 1 else 0) ≤ 1
one_small true = omega arith
one_small false = omega arith

pub times_short : (l : Lit) (c : Clause) → times l c ≤ length c
times_short l [] = omega arith
times_short l (m ∷ c) =
    let rest = times_short l c in
    let one = one_small (int_eq m.code l.code) in omega (arith, rest, one)

pub times_few : (l : Lit) (c : Clause) (i : ℕ) → times l (take i c) ≤ i
times_few l c zero = omega arith
times_few l [] (suc i) = omega arith
times_few l (m ∷ c) (suc i) =
    let rest = times_few l c i in
    let one = one_small (int_eq m.code l.code) in omega (arith, rest, one)

-- the next one stands in the clause too
pub times_next : (l : Lit) (c : Clause) (i : ℕ) (d : Lit) → i < length c →
    times l (take i c) + one_if l (get_or c i d) ≤ times l c
times_next l c i d below =
    let more = times_more l c i d below in
    let front = times_front l c (suc i) in omega (arith, more, front)

-- it stands there at all where it is among the literals
pub times_among : (l : Lit) (c : Clause) → is_among c l ≡ true → 1 ≤ times l c
times_among l [] is = absurd (both_ways _ refl is)
times_among l (m ∷ c) is = by (int_eq m.code l.code) is (times_among l c) where
  by : (b : Bool) → (b || is_among c l) ≡ true → (is_among c l ≡ true → 1 ≤ times l c) →
      1 ≤ (if b then 1 else 0) + times l c
  by true is rest = omega arith
  by false is rest = let more = rest is in omega (arith, more)

pub times_not_among : (l : Lit) (c : Clause) → is_among c l ≡ false → times l c ≡ 0
times_not_among l [] is = refl
times_not_among l (m ∷ c) is = by (int_eq m.code l.code) is (times_not_among l c) where
  by : (b : Bool) → (b || is_among c l) ≡ false → (is_among c l ≡ false → times l c ≡ 0) →
      (if b then 1 else 0) + times l c ≡ 0
  by true is rest = absurd (both_ways _ is refl)
  by false is rest = let none = rest is in omega (arith, none)
