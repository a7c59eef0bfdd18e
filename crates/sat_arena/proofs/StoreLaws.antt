-- Laws of looking a clause up by its reference, where one is changed or another one added.
use Rattle.std.proofs.Common.{◌≡◌, ◌≢◌, ◌==◌, true, false, ◌⊎◌, inl, inr, List, [], ◌∷◌, ◌++◌, refl, sym, ap, ◌∙◌}
use Rattle.std.proofs.lemmas.Bool.{both_ways}
use Rattle.std.proofs.lemmas.Bool.Decides.{eqb_tells}
use Rattle.sat_arena.specs.declared.clause_ref.ClauseRef.{ClauseRef}
use Rattle.sat_arena.specs.Store.{Stored, changed, is_held, nothing_at, ref, stored_at}

-- two references are one, and their words are equal, or they are not, and their words differ
pub same_or_other : (c d : ClauseRef) →
    (((c.word == d.word) ≡ true) × (c ≡ d)) ⊎ (((c.word == d.word) ≡ false) × (c ≢ d))
same_or_other c d = elim (eqb_tells c.word d.word) [
  | inl same ↦ inl (same.0, ap ref same.1)
  | inr other ↦ inr (other.0, λ e. other.1 (ap (λ (r : ClauseRef). r.word) e))
]

-- where no clause is held, an empty one stands
pub not_held : (ks : List Stored) (c : ClauseRef) → is_held ks c ≡ false →
    stored_at ks c ≡ nothing_at c
not_held [] c out = refl
not_held (k ∷ ks) c out = elim (same_or_other k.place c) [
  | inl same ↦ absurd (both_ways true (rw same.0 at out) refl)
  | inr other ↦ rw other.0 (not_held ks c (rw other.0 at out))
]

-- the change leaves each clause at its place
abbrev pub Stays : (Stored → Stored) → Type 0
Stays f = (k : Stored) → (f k).place ≡ k.place

-- such a change holds no other clauses than before
pub held_changed : (f : Stored → Stored) (c d : ClauseRef) (ks : List Stored) → Stays f →
    is_held (changed f c ks) d ≡ is_held ks d
held_changed f c d [] stays = refl
held_changed f c d (k ∷ ks) stays = elim (same_or_other k.place c) [
  | inl same ↦ rw (same.0, stays k, held_changed f c d ks stays) refl
  | inr other ↦ rw (other.0, held_changed f c d ks stays) refl
]

-- the clause that it names is changed
pub changed_same : (f : Stored → Stored) (c : ClauseRef) (ks : List Stored) → Stays f →
    is_held ks c ≡ true → stored_at (changed f c ks) c ≡ f (stored_at ks c)
changed_same f c [] stays held = cc
changed_same f c (k ∷ ks) stays held = elim (same_or_other k.place c) [
  | inl same ↦ rw (same.0, stays k, same.0) refl
  | inr other ↦ rw (other.0, other.0) (changed_same f c ks stays (rw other.0 at held))
]

-- another clause is as it was
pub changed_other : (f : Stored → Stored) (c d : ClauseRef) (ks : List Stored) → Stays f → d ≢ c →
    stored_at (changed f c ks) d ≡ stored_at ks d
changed_other f c d [] stays ne = refl
changed_other f c d (k ∷ ks) stays ne = elim (same_or_other k.place c) [
  | inl same ↦ elim (same_or_other k.place d) [
    | inl this ↦ absurd (ne (sym this.1 ∙ same.1))
    | inr not_this ↦ rw (same.0, stays k, not_this.0) (changed_other f c d ks stays ne)
  ]
  | inr other ↦ elim (same_or_other k.place d) [
    | inl this ↦ rw (other.0, this.0) refl
    | inr not_this ↦ rw (other.0, not_this.0) (changed_other f c d ks stays ne)
  ]
]

-- a clause that is held is held, and as it was, with another one behind
pub held_push : (ks : List Stored) (k : Stored) (c : ClauseRef) → is_held ks c ≡ true →
    is_held (ks ++ k ∷ []) c ≡ true
held_push [] k c held = cc
held_push (x ∷ ks) k c held = elim (same_or_other x.place c) [
  | inl same ↦ rw same.0 refl
  | inr other ↦ rw other.0 (held_push ks k c (rw other.0 at held))
]

-- a clause that is added is held
pub push_held : (ks : List Stored) (k : Stored) → is_held (ks ++ k ∷ []) k.place ≡ true
push_held [] k = elim (same_or_other k.place k.place) [
  | inl same ↦ rw same.0 refl
  | inr other ↦ absurd (other.1 refl)
]
push_held (x ∷ ks) k = elim (same_or_other x.place k.place) [
  | inl same ↦ rw same.0 refl
  | inr other ↦ rw other.0 (push_held ks k)
]
