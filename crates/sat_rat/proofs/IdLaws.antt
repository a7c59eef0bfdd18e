-- Lists of ids that were gone over, and clauses of which none is left.
use Rattle.std.proofs.Common.{◌≡◌, ℕ, zero, suc, Bool, true, false, ◌||◌, ◌==◌, List, [], ◌∷◌, Option, None, Some, inl, inr, refl, sym, ap, arith, subst}
use Rattle.std.specs.Prelude.{◌⊎◌}
use Rattle.std.proofs.lemmas.Bool.{both_ways, eqb-true, eq-eqb}
use Rattle.std.proofs.Math.Nat.{eq-or-lt_of_le}
use Rattle.sat_clause.specs.declared.literal.Lit.{Lit}
use Rattle.sat_clause.specs.Literal.{Clause}
use Rattle.sat_clause.specs.Live.{Live, clause_at}
use Rattle.sat_check.specs.LiveStore.{IsPlaced, StandsBefore}
use Rattle.sat_rat.specs.Counts.{held, ids_to, with_id, with_ids}
use Rattle.sat_rat.specs.FullRup.{has_id}

has_more : (ids : List ℕ) (a q : ℕ) → has_id ids q ≡ true → has_id (a ∷ ids) q ≡ true
has_more ids a q is = by (q == a) is where
  by : (b : Bool) → has_id ids q ≡ true → (b || has_id ids q) ≡ true
  by true is = refl
  by false is = is

has_first : (ids : List ℕ) (a q : ℕ) → q ≡ a → has_id (a ∷ ids) q ≡ true
has_first ids a q same = rw (eq-eqb q a same) refl

-- ---- the ids from 1 to a number

pub placed_has : (n q : ℕ) → IsPlaced n q → has_id (ids_to n) q ≡ true
placed_has zero q placed = absurd (omega (arith, placed.0, placed.1))
placed_has (suc n) q placed = elim (eq-or-lt_of_le placed.1) [
  | inl same ↦ has_first (ids_to n) (suc n) q same
  | inr less ↦ has_more (ids_to n) (suc n) q (placed_has n q (placed.0, omega (arith, less)))
]

pub has_placed : (n q : ℕ) → has_id (ids_to n) q ≡ true → IsPlaced n q
has_placed zero q is = absurd (both_ways _ refl is)
has_placed (suc n) q is = by (q == suc n) refl is (has_placed n q) where
  by : (b : Bool) → (q == suc n) ≡ b → (b || has_id (ids_to n) q) ≡ true →
      (has_id (ids_to n) q ≡ true → IsPlaced n q) → IsPlaced (suc n) q
  by true same is rest =
      let e = eqb-true q (suc n) same in (omega (arith, e), omega (arith, e))
  by false apart is rest = let p = rest is in (p.0, omega (arith, p.1))

-- the next id is none of them
pub next_is_fresh : (n : ℕ) → has_id (ids_to n) (suc n) ≡ false
next_is_fresh n = by (has_id (ids_to n) (suc n)) refl where
  by : (b : Bool) → has_id (ids_to n) (suc n) ≡ b → b ≡ false
  by true is = let p = has_placed n (suc n) is in absurd (omega (arith, p.1))
  by false is = refl

-- ---- and those at positions

module _ (id_at : ℕ → Option ℕ) (ids : List ℕ) where
  with_has : (o : Option ℕ) (more : List ℕ) (q : ℕ) → has_id (with_id o more) q ≡ true →
      (has_id more q ≡ true) ⊎ (o ≡ Some q)
  with_has None more q is = inl is
  with_has (Some a) more q is = by (q == a) refl is where
    by : (b : Bool) → (q == a) ≡ b → (b || has_id more q) ≡ true →
        (has_id more q ≡ true) ⊎ (Some a ≡ Some q)
    by true same is = inr (ap Some (sym (eqb-true q a same)))
    by false apart is = inl is

  has_with : (k q : ℕ) → has_id (with_ids id_at k ids) q ≡ true →
      (has_id ids q ≡ true) ⊎ StandsBefore k id_at q
  has_with zero q is = inl is
  has_with (suc k) q is =
      elim (with_has (id_at k) (with_ids id_at k ids) q is) [
        | inl before ↦ elim (has_with k q before) [
          | inl old ↦ inl old
          | inr here ↦ inr (here.0, omega (arith, here.1), here.2)
        ]
        | inr here ↦ inr (k, omega arith, here)
      ]

  -- an id that stands at no position before, and is not placed, is none of them
  pub is_fresh : (k q : ℕ) → (has_id ids q ≡ true → ⊥) →
      ((i j id : ℕ) → id_at i ≡ Some id → id_at j ≡ Some id → i ≡ j) → id_at k ≡ Some q →
      has_id (with_ids id_at k ids) q ≡ false
  is_fresh k q apart once here = by (has_id (with_ids id_at k ids) q) refl where
    by : (b : Bool) → has_id (with_ids id_at k ids) q ≡ b → b ≡ false
    by true is = elim (has_with k q is) [
      | inl old ↦ absurd (apart old)
      | inr there ↦
          let same = once there.0 k q there.2 here in absurd (omega (arith, there.1, same))
    ]
    by false is = refl

  kept : (o : Option ℕ) (more : List ℕ) (q : ℕ) → has_id more q ≡ true →
      has_id (with_id o more) q ≡ true
  kept None more q is = is
  kept (Some a) more q is = has_more more a q is

  pub has_old : (k q : ℕ) → has_id ids q ≡ true → has_id (with_ids id_at k ids) q ≡ true
  has_old zero q is = is
  has_old (suc k) q is = kept (id_at k) (with_ids id_at k ids) q (has_old k q is)

  pub has_stands : (k q : ℕ) → StandsBefore k id_at q → has_id (with_ids id_at k ids) q ≡ true
  has_stands zero q here = absurd (omega (arith, here.1))
  has_stands (suc k) q here = elim (eq-or-lt_of_le {n = here.0} {m = k} (omega (arith, here.1))) [
    | inr before ↦
        kept (id_at k) (with_ids id_at k ids) q (has_stands k q (here.0, before, here.2))
    | inl same ↦
        let at : id_at k ≡ Some q = subst (λ (n : ℕ). id_at n ≡ Some q) same here.2 in
        rw at (has_first (with_ids id_at k ids) q q refl)
  ]

-- ---- where no clause is left

pub held_none : (l : Lit) (live : Live) (ids : List ℕ) →
    ((q : ℕ) (c : Clause) → clause_at live q ≡ Some c → has_id ids q ≡ true) →
    held l ids live ≡ 0
held_none l [] ids all = refl
held_none l (entry ∷ live) ids all =
    rw (first, held_none l live (entry.0 ∷ ids) rest) refl
  where
    first : has_id ids entry.0 ≡ true
    first = all entry.0 entry.1 (rw (eq-eqb entry.0 entry.0 refl) refl)

    rest : (q : ℕ) (c : Clause) → clause_at live q ≡ Some c → has_id (entry.0 ∷ ids) q ≡ true
    rest q c is = by (q == entry.0) refl where
      by : (b : Bool) → (q == entry.0) ≡ b → (b || has_id ids q) ≡ true
      by true same = refl
      by false apart = all q c (rw apart is)
