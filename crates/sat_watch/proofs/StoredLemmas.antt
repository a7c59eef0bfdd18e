-- Looking a clause up by its reference, where one clause changes.
use Rattle.std.proofs.Common.{◌≡◌, ◌≢◌, ℕ, zero, suc, ◌+◌, ◌<◌, Bool, true, false, inl, inr, List, [], ◌∷◌, ◌++◌, length, get_or, Option, None, Some, refl, sym, ap, ◌∙◌, subst, arith}
use Rattle.sat_arena.specs.declared.clause_ref.ClauseRef.{ClauseRef}
use Rattle.sat_arena.specs.Store.{Stored, changed, is_held, stored_at, ArePlaced, size_of, with_link}
use Rattle.sat_clause.specs.declared.literal.Lit.{Lit}
use Rattle.sat_arena.proofs.LayoutLemmas.{stands, unchanged}
use Rattle.sat_watch.specs.Chains.{AreUnmarked, counted, next_on}
use Rattle.sat_arena.proofs.StoreLaws.{Stays, not_held, same_or_other}

-- a clause that a chain goes on from is held
pub next_is_held : (ks : List Stored) (l : Lit) (c : ClauseRef) (a : Option ClauseRef) →
    next_on ks l c ≡ Some a → is_held ks c ≡ true
next_is_held ks l c a goes = by_test (is_held ks c) refl where
  by_test : (b : Bool) → is_held ks c ≡ b → is_held ks c ≡ true
  by_test true e = e
  by_test false e =
      let none : next_on ks l c ≡ None = rw (not_held ks c e) refl in
      let clash : None ≡ Some a = sym none ∙ goes in cc

-- the first clause is looked up at its own place, and none behind it stands there
pub head_at : (k : Stored) (ks : List Stored) (c : ClauseRef) → k.place ≡ c →
    (is_held (k ∷ ks) c ≡ true) × (stored_at (k ∷ ks) c ≡ k)
head_at k ks c is = elim (same_or_other k.place c) [
  | inl same ↦ (rw same.0 refl, rw same.0 refl)
  | inr other ↦ absurd (other.1 is)
]

pub behind_at : (k : Stored) (ks : List Stored) (c : ClauseRef) → k.place ≢ c →
    (is_held (k ∷ ks) c ≡ is_held ks c) × (stored_at (k ∷ ks) c ≡ stored_at ks c)
behind_at k ks c ne = elim (same_or_other k.place c) [
  | inl same ↦ absurd (ne same.1)
  | inr other ↦ (rw other.0 refl, rw other.0 refl)
]

pub held_behind : (at : ℕ) (k : Stored) (ks : List Stored) (c : ClauseRef) →
    ArePlaced at (k ∷ ks) → is_held ks c ≡ true → k.place ≢ c
held_behind at k ks c placed held = λ is.
    let there = stands (at + size_of k) ks c placed.1 held in let place = there.place in
    let word = ap (λ (r : ClauseRef). r.word) (sym placed.0 ∙ is) in
    absurd (omega arith)

-- within a list no default is read
pub default_free : {X : Type 0} (xs : List X) (i : ℕ) (d d' : X) → i < length xs →
    get_or xs i d ≡ get_or xs i d'
default_free [] i d d' lt = absurd (omega arith)
default_free (x ∷ xs) zero d d' lt = refl
default_free (x ∷ xs) (suc i) d d' lt = default_free xs i d d' (omega arith)

pub length_changed : (f : Stored → Stored) (c : ClauseRef) (ks : List Stored) →
    length (changed f c ks) ≡ length ks
length_changed f c [] = refl
length_changed f c (k ∷ ks) = ap suc (length_changed f c ks)

pub ids_changed : (f : Stored → Stored) (c d : ClauseRef) (ks : List Stored) → Stays f →
    ((k : Stored) → (f k).id ≡ k.id) → (stored_at (changed f c ks) d).id ≡ (stored_at ks d).id
ids_changed f c d [] stays same = refl
ids_changed f c d (k ∷ ks) stays same = elim (same_or_other k.place c) [
  | inl this ↦ elim (same_or_other k.place d) [
    | inl there ↦ rw (this.0, stays k, there.0) (same k)
    | inr other ↦ rw (this.0, stays k, other.0) (ids_changed f c d ks stays same)
  ]
  | inr not_this ↦ elim (same_or_other k.place d) [
    | inl there ↦ rw (not_this.0, there.0) refl
    | inr other ↦ rw (not_this.0, other.0) (ids_changed f c d ks stays same)
  ]
]

pub placed_changed : (f : Stored → Stored) (c : ClauseRef) (at : ℕ) (ks : List Stored) → Stays f →
    ((k : Stored) → length (f k).lits ≡ length k.lits) → ArePlaced at ks →
    ArePlaced at (changed f c ks)
placed_changed f c at [] stays long placed = tt
placed_changed f c at (k ∷ ks) stays long placed =
    let others = placed_changed f c (at + size_of k) ks stays long placed.1 in
    elim (same_or_other k.place c) [
      | inl same ↦ rw same.0 (
        stays k ∙ placed.0,
        subst (λ n. ArePlaced (at + (n + 6)) (changed f c ks)) (sym (long k)) others,
      )
      | inr other ↦ rw other.0 (placed.0, others)
    ]

-- a change that a test does not see leaves the count
pub counted_changed : (p : Stored → Bool) (f : Stored → Stored) (c : ClauseRef) (at : ℕ)
    (ks : List Stored) → ArePlaced at ks → is_held ks c ≡ true →
    p (f (stored_at ks c)) ≡ p (stored_at ks c) → counted p (changed f c ks) ≡ counted p ks
counted_changed p f c at [] placed held same = cc
counted_changed p f c at (k ∷ ks) placed held same = elim (same_or_other k.place c) [
  | inl here ↦
      let passes : p (f k) ≡ p k = rw here.0 at same in
      let others = unchanged f c (at + size_of k) ks placed.1
      (omega (
        arith,
        ap (λ (r : ClauseRef). r.word) placed.0,
        ap (λ (r : ClauseRef). r.word) here.1,
      )) in
      rw (here.0, others, passes) refl
  | inr other ↦
      let rest = counted_changed p f c (at + size_of k) ks placed.1 (rw other.0 at held)
      (rw other.0 at same) in
      rw (other.0, rest) refl
]

-- a change that leaves the marks leaves all clauses unmarked
pub unmarked_changed : (f : Stored → Stored) (c : ClauseRef) (ks : List Stored) →
    ((k : Stored) → (f k).mark ≡ k.mark) → AreUnmarked ks → AreUnmarked (changed f c ks)
unmarked_changed f c [] same un = tt
unmarked_changed f c (k ∷ ks) same un =
    let others = unmarked_changed f c ks same un.1 in
    elim (same_or_other k.place c) [
      | inl here ↦ rw here.0 (same k ∙ un.0, others)
      | inr other ↦ rw other.0 (un.0, others)
    ]

-- where no clause is marked, one that is looked up is not
pub unmarked_at : (ks : List Stored) (c : ClauseRef) → AreUnmarked ks →
    (stored_at ks c).mark ≡ false
unmarked_at [] c un = refl
unmarked_at (k ∷ ks) c un =
    let others = unmarked_at ks c un.1 in
    elim (same_or_other k.place c) [
      | inl here ↦ rw here.0 un.0
      | inr other ↦ rw other.0 others
    ]

pub unmarked_append : (ks more : List Stored) → AreUnmarked ks → AreUnmarked more →
    AreUnmarked (ks ++ more)
unmarked_append [] more un un' = un'
unmarked_append (k ∷ ks) more un un' = (un.0, unmarked_append ks more un.1 un')

-- a link changes nothing else
pub link_mark : (w : ℕ) (o : Option ClauseRef) (k : Stored) → (with_link w o k).mark ≡ k.mark
link_mark zero o k = refl
link_mark (suc w) o k = refl

pub link_place : (w : ℕ) (o : Option ClauseRef) (k : Stored) → (with_link w o k).place ≡ k.place
link_place zero o k = refl
link_place (suc w) o k = refl

pub link_id : (w : ℕ) (o : Option ClauseRef) (k : Stored) → (with_link w o k).id ≡ k.id
link_id zero o k = refl
link_id (suc w) o k = refl

pub link_lits : (w : ℕ) (o : Option ClauseRef) (k : Stored) → (with_link w o k).lits ≡ k.lits
link_lits zero o k = refl
link_lits (suc w) o k = refl
