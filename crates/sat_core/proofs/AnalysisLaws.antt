-- What an analysis meets, clause by clause and place by place.
use Rattle.std.proofs.Common.{inl, inr, ◌⊎◌, ◌≡◌, ℕ, zero, suc, List, [], ◌∷◌, ◌++◌, take, Option, Some, Contains, refl, sym, ap, ◌∙◌, subst, arith, append_assoc}
use Rattle.std.proofs.lemmas.List.{append-nil}
use Rattle.std.proofs.lemmas.List.Elements.{All-contains, Contains-append_left, Contains-push, Contains-push_cases}
use Rattle.list_laws.proofs.FrontParts.{all-front}
use Rattle.sat_clause.specs.declared.literal.Lit.{Lit}
use Rattle.sat_clause.specs.Literal.{Clause}
use Rattle.sat_watch.specs.declared.entry.TrailEntry.{TrailEntry}
use Rattle.sat_arena.specs.declared.clause_ref.ClauseRef.{ClauseRef}
use Rattle.sat_watch.specs.Watches.{WatchState, lits_at}
use Rattle.sat_core.specs.Analysis.{HasLevel, IsAt, IsFalsePlace, IsLeast, IsReasonPlace, reason_lits}
use Rattle.sat_core.specs.Marks.{MarkState, Meets}
use Rattle.sat_core.proofs.TrailPlaces.{at_one}

-- MEETING

module _ (P Q R : ℕ → Type 0) (first : (q : ℕ) → P q → R q) (second : (q : ℕ) → Q q → R q)
    (either : (q : ℕ) → R q → P q ⊎ Q q) where
  pub meets_then : (a b c : MarkState) → Meets P a b → Meets Q b c → Meets R a c
  meets_then a b c one two = record {
    size = two.size ∙ one.size;
    used = two.used ∙ one.used;
    added = one.added ++ two.added;
    places = two.places ∙ ap (λ (ps : List ℕ). ps ++ two.added) one.places
        ∙ append_assoc a.places one.added two.added;
    kept = λ q is. two.kept q (one.kept q is);
    all = λ q is. elim (either q is) [
      | inl p ↦ two.kept q (one.all q p)
      | inr r ↦ two.all q r
    ];
    only = λ q is. elim (two.only q is) [
      | inl before ↦ elim (one.only q before) [ inl old ↦ inl old | inr p ↦ inr (first q p) ]
      | inr r ↦ inr (second q r)
    ];
  }

  pub least_then : (trail : List TrailEntry) (level x y z : ℕ) → IsLeast trail level P x y →
      IsLeast trail level Q y z → IsLeast trail level R x z
  least_then trail level x y z one two = record {
    down = omega (arith, one.down, two.down);
    is = elim two.is [
      | inl same ↦ elim one.is [
        | inl still ↦ inl (same ∙ still)
        | inr found ↦ inr (subst (λ (n : ℕ). R n × HasLevel trail level n) (sym same)
            (first y found.0, found.1))
      ]
      | inr found ↦ inr (second z found.0, found.1)
    ];
    lowest = λ q is current. elim (either q is) [
      | inl p ↦ (let low = one.lowest q p current in omega (arith, low, two.down))
      | inr r ↦ two.lowest q r current
    ];
  }

module _ (P : ℕ → Type 0) (none : (q : ℕ) → P q → ⊥) where
  pub meets_none : (s : MarkState) → Meets P s s
  meets_none s = record {
    size = refl;
    used = refl;
    added = [];
    places = sym (append-nil s.places);
    kept = λ q is. is;
    all = λ q is. absurd (none q is);
    only = λ q is. inl is;
  }

  pub least_none : (trail : List TrailEntry) (level x : ℕ) → IsLeast trail level P x x
  least_none trail level x = record {
    down = omega arith;
    is = inl refl;
    lowest = λ q is current. absurd (none q is);
  }

-- CLAUSES, LITERAL BY LITERAL

-- only one literal stands in a clause of one
pub only_one : (l m : Lit) → Contains (l ∷ []) m → l ≡ m
only_one l m (zero, within, is) = is
only_one l m (suc k, within, is) = absurd (omega (arith, within))

pub none_front : (trail : List TrailEntry) (lits : Clause) (q : ℕ) →
    IsFalsePlace trail (take 0 lits) q → ⊥
none_front trail lits q (l, has, false_is, at) =
    All-contains (λ (m : Lit). ⊥) (take 0 lits) l (all-front (λ (m : Lit). ⊥) lits) has

module _ (trail : List TrailEntry) (front : Clause) (l : Lit) where
  pub front_place : (q : ℕ) → IsFalsePlace trail front q → IsFalsePlace trail (front ++ l ∷ []) q
  front_place q (m, has, is, at) = (m, Contains-append_left front (l ∷ []) m has, is, at)

  pub next_place : (q : ℕ) → IsFalsePlace trail (l ∷ []) q →
      IsFalsePlace trail (front ++ l ∷ []) q
  next_place q (m, has, is, at) =
      (m, subst (Contains (front ++ l ∷ [])) (only_one l m has) (Contains-push front l), is, at)

  pub either_place : (q : ℕ) → IsFalsePlace trail (front ++ l ∷ []) q →
      IsFalsePlace trail front q ⊎ IsFalsePlace trail (l ∷ []) q
  either_place q (m, has, is, at) = elim (Contains-push_cases front l m has) [
    | inl before ↦ inl (m, before, is, at)
    | inr here ↦ inr (m, (zero, omega arith, here), is, at)
  ]

-- the places of the false literals of a reason
pub meets_alike : (P R : ℕ → Type 0) → ((q : ℕ) → P q → R q) → ((q : ℕ) → R q → P q) →
    (a b : MarkState) → Meets P a b → Meets R a b
meets_alike P R to from a b meets = record {
  size = meets.size;
  used = meets.used;
  added = meets.added;
  places = meets.places;
  kept = meets.kept;
  all = λ q is. meets.all q (from q is);
  only = λ q is. elim (meets.only q is) [ inl old ↦ inl old | inr p ↦ inr (to q p) ];
}

pub least_alike : (P R : ℕ → Type 0) → ((q : ℕ) → P q → R q) → ((q : ℕ) → R q → P q) →
    (trail : List TrailEntry) (level x y : ℕ) → IsLeast trail level P x y →
    IsLeast trail level R x y
least_alike P R to from trail level x y least = record {
  down = least.down;
  is = elim least.is [ inl same ↦ inl same | inr found ↦ inr (to y found.0, found.1) ];
  lowest = λ q is current. least.lowest q (from q is) current;
}

module _ (w : WatchState) (p : ℕ) (e : TrailEntry) (r : ClauseRef) (at : IsAt w.trail p e)
    (some : e.reason ≡ Some r) where
  pub reason_to : (q : ℕ) → IsFalsePlace w.trail (lits_at w.clauses r) q → IsReasonPlace w p q
  reason_to q is = (
    e,
    at,
    subst (λ (o : Option ClauseRef). IsFalsePlace w.trail (reason_lits w.clauses o) q)
        (sym some) is,
  )

  pub reason_from : (q : ℕ) → IsReasonPlace w p q → IsFalsePlace w.trail (lits_at w.clauses r) q
  reason_from q (f, at', is) =
      let one : f ≡ e = at_one w.trail p f e at' at in
      subst (λ (o : Option ClauseRef). IsFalsePlace w.trail (reason_lits w.clauses o) q)
      (ap (λ (x : TrailEntry). x.reason) one ∙ some) is
