-- Ids that have a mark or a cell, and those at positions of the map.
use Rattle.std.proofs.Common.{◌≡◌, ℕ, zero, suc, ◌+◌, ◌-◌, ◌<◌, ◌≤◌, Bool, true, false, cond, eqb, List, [], ◌∷◌, length, get_or, Option, None, Some, inl, inr, refl, sym, ap, ◌∙◌, arith, subst}
use Rattle.std.specs.Prelude.{is_some, nat_lt, nat_eq, option_map, IsTrue, Vec, ◌⊎◌}
use Rattle.std.specs.Global.{Global}
use Rattle.std.specs.List.{IsDistinct, AllByRecursion}
use Rattle.std.specs.Map.{keys_of, lookup}
use Rattle.std.proofs.lemmas.Bool.{both_ways, eq-eqb, eqb-true, ltb-true, ltb-false}
use Rattle.std.proofs.lemmas.List.{get_or_past}
use Rattle.std.proofs.lemmas.Map.Entries.{place_from_lookup}
use Rattle.std.proofs.lemmas.Option.{slice_get_within}
use Rattle.sat_clause.specs.declared.literal.Lit.{Lit}
use Rattle.sat_clause.specs.Literal.{Clause}
use Rattle.sat_check.specs.DerivedStore.{DerivedState, cell_at, derived_at, key_at, lits_of}
use Rattle.sat_check.specs.InputStore.{InputState, input_at}
use Rattle.sat_check.specs.LiveStore.{IsPlaced, StandsBefore, joined, unless_placed}

-- ---- each id has a place or stands in the map

-- a clause that the map holds stands at a position
in_map : (entries : List (ℕ × Vec Lit Global)) (id : ℕ) →
    is_some (option_map lits_of (lookup (eqb id) entries)) ≡ true →
    StandsBefore (length entries) (key_at entries) id
in_map entries id is = by (lookup (eqb id) entries) refl is where
  by : (o : Option (Vec Lit Global)) → lookup (eqb id) entries ≡ o →
      is_some (option_map lits_of o) ≡ true → StandsBefore (length entries) (key_at entries) id
  by None none is = absurd (both_ways false refl is)
  by (Some v) found is =
      let place = place_from_lookup (eqb id) entries v found in
      let same : id ≡ place.1 = eqb-true id place.1 place.3 in (
        place.0,
        slice_get_within entries place.0 (place.1, v) place.2,
        ap (option_map (λ e. e.0)) place.2 ∙ ap Some (sym same),
      )

-- behind the last cell and before the first one there is none
no_cell_behind : (first count q : ℕ) → first + count ≤ q → cell_at first count q ≡ None
no_cell_behind first count q behind =
    by (nat_lt q first) (nat_lt (q - first) count) refl
  where
    by : (b d : Bool) → nat_lt (q - first) count ≡ d →
        cond b None (cond d (Some (q - first)) None) ≡ None
    by true d _ = refl
    by false true within =
        absurd (omega (arith, behind, ltb-true (q - first) count within))
    by false false _ = refl

no_cell_before : (first count q : ℕ) → q < first → cell_at first count q ≡ None
no_cell_before first count q before = by (nat_lt q first) refl where
  by : (b : Bool) → nat_lt q first ≡ b →
      cond b None (cond (nat_lt (q - first) count) (Some (q - first)) None) ≡ None
  by true _ = refl
  by false above = absurd (omega (arith, before, ltb-false q first above))

module _ (marks : List Bool) (clauses : List Clause) (vars : ℕ)
    (table : List (Option (Vec Lit Global))) (others : List (ℕ × Vec Lit Global)) where
  abbrev pub inputs : InputState
  inputs = record { vars = vars; marks = marks; clauses = clauses }

  abbrev pub derived : DerivedState
  derived = record { first = length marks + 1; table = table; others = others }

  abbrev pub last : ℕ
  last = length marks + length table

  -- behind the last place a clause is in the map
  behind_places : (n : ℕ) → last ≤ n →
      joined (input_at inputs) (derived_at derived) (suc n)
      ≡ option_map lits_of (lookup (eqb (suc n)) others)
  behind_places n behind =
      let unmarked : get_or marks n false ≡ false =
      get_or_past marks n false (omega (arith, behind)) in
      let none = no_cell_behind (length marks + 1) (length table) (suc n) (omega (arith, behind)) in
      rw (unmarked, none) refl

  pub each_stands : (id : ℕ) →
      IsTrue (is_some (joined (input_at inputs) (derived_at derived) id)) →
      IsPlaced last id
      ⊎ StandsBefore (length others) (λ at. unless_placed last (key_at others at)) id
  each_stands zero is =
      let none = no_cell_before (length marks + 1) (length table) zero (omega arith) in
      let here = in_map others zero (rw none at is) in
      inr (here.0, here.1, ap (unless_placed last) here.2)
  each_stands (suc n) is = by (nat_lt n last) refl where
    by : (b : Bool) → nat_lt n last ≡ b →
        IsPlaced last (suc n)
        ⊎ StandsBefore (length others) (λ at. unless_placed last (key_at others at)) (suc n)
    by true below = inl (omega arith, omega (arith, ltb-true n last below))
    by false above =
        let same = behind_places n (ltb-false n last above) in
        let here = in_map others (suc n) (rw same at is) in
        inr (
          here.0,
          here.1,
          ap (unless_placed last) here.2
              ∙ ap (λ b. cond b None (Some (suc n))) above,
        )

-- ---- no id stands at two positions

named_apart : (id key : ℕ) (others : List (ℕ × Vec Lit Global)) (at : ℕ) →
    AllByRecursion (λ y. nat_eq key y ≡ false) (keys_of others) → key_at others at ≡ Some id →
    nat_eq key id ≡ false
named_apart id key [] at apart none = cc
named_apart id key (e ∷ others) zero apart is =
    let same : e.0 ≡ id = cc in subst (λ (k : ℕ). nat_eq key k ≡ false) same apart.0
named_apart id key (e ∷ others) (suc at) apart is = named_apart id key others at apart.1 is

key_once : (others : List (ℕ × Vec Lit Global)) → IsDistinct nat_eq (keys_of others) →
    (i j id : ℕ) → key_at others i ≡ Some id → key_at others j ≡ Some id → i ≡ j
unfolding IsDistinct
key_once [] distinct i j id is too = cc
key_once (e ∷ others) distinct zero zero id is too = refl
key_once (e ∷ others) distinct zero (suc j) id is too =
    let same : e.0 ≡ id = cc in
    absurd (both_ways _ (named_apart id e.0 others j distinct.0 too) (eq-eqb e.0 id same))
key_once (e ∷ others) distinct (suc i) zero id is too =
    let same : e.0 ≡ id = cc in
    absurd (both_ways _ (named_apart id e.0 others i distinct.0 is) (eq-eqb e.0 id same))
key_once (e ∷ others) distinct (suc i) (suc j) id is too =
    ap suc (key_once others distinct.1 i j id is too)

unless_is : (last : ℕ) (o : Option ℕ) (id : ℕ) → unless_placed last o ≡ Some id → o ≡ Some id
unless_is last None id is = cc
unless_is last (Some zero) id is = is
unless_is last (Some (suc n)) id is = by (nat_lt n last) is where
  by : (b : Bool) → cond b None (Some (suc n)) ≡ Some id → Some (suc n) ≡ Some id
  by true is = cc
  by false is = is

pub once_stands : (last : ℕ) (others : List (ℕ × Vec Lit Global)) →
    IsDistinct nat_eq (keys_of others) → (i j id : ℕ) →
    unless_placed last (key_at others i) ≡ Some id →
    unless_placed last (key_at others j) ≡ Some id → i ≡ j
once_stands last others distinct i j id is too =
    key_once others distinct i j id (unless_is last _ id is) (unless_is last _ id too)
