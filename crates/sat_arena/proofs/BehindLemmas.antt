-- Which clause stands first, and which one behind another.
use Rattle.std.proofs.Common.{◌≡◌, ◌≢◌, ℕ, ◌+◌, true, inl, inr, List, [], ◌∷◌, length, None, Some, refl, sym, ap, ◌∙◌, arith}
use Rattle.std.proofs.lemmas.Bool.Decides.{eqb_tells}
use Rattle.sat_clause.specs.declared.literal.Lit.{Lit}
use Rattle.sat_arena.specs.declared.clause_ref.ClauseRef.{ClauseRef}
use Rattle.sat_arena.specs.Layout.{read_from}
use Rattle.sat_arena.specs.Store.{ArePlaced, Stored, behind_of, first_ref, is_held, ref, size_all, size_of, stored_at}

-- without words there is no first clause
pub first_none : (words : List Lit) → length words ≡ 0 → first_ref (read_from 0 0 words) ≡ None
first_none [] none = refl
first_none (w ∷ ws) none = absurd (omega arith)

-- else it stands at the first word
pub first_some : (words : List Lit) → length words ≢ 0 →
    first_ref (read_from 0 0 words) ≡ Some (ref 0)
first_some [] some = absurd (some refl)
first_some (w ∷ ws) some = refl

-- what stands behind a clause of clauses that begin at a word
pub record Follows (at : ℕ) (ks : List Stored) (c : ClauseRef) : Type 0 where
  pub last : c.word + size_of (stored_at ks c) ≡ at + size_all ks →
      first_ref (behind_of ks c) ≡ None
  pub next : c.word + size_of (stored_at ks c) ≢ at + size_all ks →
      first_ref (behind_of ks c) ≡ Some (ref (c.word + size_of (stored_at ks c)))

-- the first of clauses that begin at a word, where their last word is known
begins : (at end : ℕ) (ks : List Stored) → ArePlaced at ks → end ≡ at + size_all ks →
    (at ≡ end → first_ref ks ≡ None) × (at ≢ end → first_ref ks ≡ Some (ref at))
begins at end [] placed whole = (λ same. refl, λ other. absurd (other (omega arith)))
begins at end (k ∷ ks) placed whole = (λ same. absurd (omega arith), λ other. ap Some placed.0)

pub follows : (at : ℕ) (ks : List Stored) (c : ClauseRef) → ArePlaced at ks → is_held ks c ≡ true →
    Follows at ks c
follows at [] c placed held = cc
follows at (k ∷ ks) c placed held = elim (eqb_tells k.place.word c.word) [
  | inl same ↦
      let here : c.word ≡ at = sym same.1 ∙ ap (λ (r : ClauseRef). r.word) placed.0 in
      let b = begins (at + size_of k) (at + size_all (k ∷ ks)) ks placed.1 (omega arith) in
      record {
        last = λ e. let e' = rw same.0 at e in rw same.0 (b.0 (omega (arith, here, e')));
        next = λ e. let e' = rw same.0 at e in
            rw same.0 (b.1 (λ is. e' (omega (arith, here, is)))
            ∙ (λ i. Some (ref (sym here i + size_of k))));
      }
  | inr other ↦
      let f = follows (at + size_of k) ks c placed.1 (rw other.0 at held) in
      record {
        last = λ e. rw other.0 (f.last (omega (arith, rw other.0 at e)));
        next = λ e. rw other.0 (f.next (λ is. (rw other.0 at e) (omega (arith, is))));
      }
]
