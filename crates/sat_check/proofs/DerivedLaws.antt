-- The clause with an id is in its cell of the table, or in the map.
use Rattle.std.proofs.Common.{[], zero, suc, ◌≡◌, ◌≢◌, ℕ, ◌+◌, ◌-◌, ◌<◌, Bool, true, false, cond, eqb, ◌∷◌, ◌++◌, List, length, get_or, set, replicate, Option, None, Some, refl, ap, sym, ◌∙◌, arith, [], suc}
use Rattle.std.specs.Prelude.{is_some, nat_lt, option_map}
use Rattle.std.specs.Prelude.{Vec}
use Rattle.std.specs.Global.{Global}
use Rattle.sat_clause.specs.declared.literal.Lit.{Lit}
use Rattle.std.specs.Map.{lookup}
use Rattle.std.proofs.lemmas.Bool.{both_ways, eq-eqb, eqb-true, ltb-false, ltb-true, ne_eqb}
use Rattle.std.proofs.lemmas.List.{get_or-set_other, get_or-set_same, length-set}
use Rattle.sat_check.specs.DerivedStore.{cell_at, cell_or, derived_at, lits_of}
use Rattle.sat_check.specs.Finder.{Changes}

-- a cell's id
cell_is : (first count id at : ℕ) → cell_at first count id ≡ Some at → id ≡ first + at
cell_is first count id at is = by (nat_lt id first) refl (nat_lt (id - first) count) is
  where
    by : (b : Bool) → nat_lt id first ≡ b → (d : Bool)
        → cond b None (cond d (Some (id - first)) None) ≡ Some at → id ≡ first + at
    by true below d e = cc
    by false above true e =
        let same : id - first ≡ at = cc in omega (arith, ltb-false id first above, same)
    by false above false e = cc

-- a clause is there where its memory is
pub is_some-lits : (o : Option (Vec Lit Global)) → is_some o ≡ is_some (option_map lits_of o)
is_some-lits None = refl
is_some-lits (Some c) = refl

-- an empty table and an empty map hold no clause
pub none_derived : (first count id : ℕ)
    → derived_at (record { first = first; table = replicate count None; others = [] }) id ≡ None
none_derived first count id =
    by (cell_at first (length (replicate {A = Option (Vec Lit Global)} count None)) id)
  where
    empty : (n at : ℕ) → get_or (replicate {A = Option (Vec Lit Global)} n None) at None ≡ None
    empty zero at = refl
    empty (suc n) zero = refl
    empty (suc n) (suc at) = empty n at

    by : (o : Option ℕ) → option_map lits_of (cell_or o (replicate count None) None) ≡ None
    by None = refl
    by (Some at) = rw (empty count at) refl

map_choice : (b : Bool) (value o : Option (Vec Lit Global)) → option_map lits_of (cond b value o)
    ≡ cond b (option_map lits_of value) (option_map lits_of o)
map_choice true value o = refl
map_choice false value o = refl

module _ (first : ℕ) (table : List (Option (Vec Lit Global))) (others : List (ℕ × Vec Lit Global))
    (id : ℕ) where
  -- where its cell is written over, a clause changes
  pub changes_cell : (at : ℕ) (value : Option (Vec Lit Global)) → cell_at first (length table) id
      ≡ Some at → at < length table →
      Changes (derived_at (record { first = first; table = table; others = others }))
      (derived_at (record { first = first; table = set table at value; others = others })) id
      (option_map lits_of value)
  changes_cell at value is within q =
      rw (length-set table at value)
      (by (eqb id q) refl (cell_at first (length table) q) refl)
    where
      by : (b : Bool) → eqb id q ≡ b → (o : Option ℕ) → cell_at first (length table) q ≡ o →
          option_map lits_of (cell_or o (set table at value) (lookup (eqb q) others))
          ≡ cond b (option_map lits_of value)
          (option_map lits_of (cell_or o table (lookup (eqb q) others)))
      by true same None none =
          let bad : Some at ≡ None =
          sym is ∙ ap (cell_at first (length table)) (eqb-true id q same) ∙ none in cc
      by true same (Some k) here =
          let both : Some at ≡ Some k =
          sym is ∙ ap (cell_at first (length table)) (eqb-true id q same) ∙ here in
          let equal : k ≡ at = cc in
          rw (equal, get_or-set_same table at value None within) refl
      by false other None none = refl
      by false other (Some k) there =
          let apart : k ≢ at =
          λ same. both_ways _ other (eq-eqb id q
          (omega (
            arith,
            cell_is first (length table) id at is,
            cell_is first (length table) q k there,
            same,
          ))) in
          rw (get_or-set_other table at k value None apart) refl

  -- where the map changes at an id that has no cell, its clause changes
  pub changes_others : (new : List (ℕ × Vec Lit Global)) (value : Option (Vec Lit Global))
      → cell_at first (length table) id ≡ None →
      ((q : ℕ) → lookup (eqb q) new ≡ cond (eqb id q) value (lookup (eqb q) others)) →
      Changes (derived_at (record { first = first; table = table; others = others }))
      (derived_at (record { first = first; table = table; others = new })) id
      (option_map lits_of value)
  changes_others new value none updates q = by (cell_at first (length table) q) refl
    where
      by : (o : Option ℕ) → cell_at first (length table) q ≡ o →
          option_map lits_of (cell_or o table (lookup (eqb q) new))
          ≡ cond (eqb id q) (option_map lits_of value)
          (option_map lits_of (cell_or o table (lookup (eqb q) others)))
      by None _ = ap (option_map lits_of) (updates q)
          ∙ map_choice (eqb id q) value (lookup (eqb q) others)
      by (Some k) there = another (eqb id q) refl
        where
          another : (b : Bool) → eqb id q ≡ b → option_map lits_of (get_or table k None)
              ≡ cond b (option_map lits_of value) (option_map lits_of (get_or table k None))
          another true same =
              let bad : None ≡ Some k =
              sym none ∙ ap (cell_at first (length table)) (eqb-true id q same) ∙ there in cc
          another false other = refl

get_or-front : (table : List (Option (Vec Lit Global))) (value : Option (Vec Lit Global)) (i : ℕ)
    → i < length table → get_or (table ++ value ∷ []) i None ≡ get_or table i None
get_or-front [] value i within = absurd (omega arith)
get_or-front (cell ∷ table) value zero within = refl
get_or-front (cell ∷ table) value (suc i) within = get_or-front table value i (omega arith)

get_or-last : (table : List (Option (Vec Lit Global))) (value : Option (Vec Lit Global))
    → get_or (table ++ value ∷ []) (length table) None ≡ value
get_or-last [] value = refl
get_or-last (cell ∷ table) value = get_or-last table value

length-push : (table : List (Option (Vec Lit Global))) (value : Option (Vec Lit Global))
    → length (table ++ value ∷ []) ≡ length table + 1
length-push [] value = refl
length-push (cell ∷ table) value = omega (arith, length-push table value)

-- an id that gets the next cell, and the clause that it had in the map
module _ (first : ℕ) (table : List (Option (Vec Lit Global)))
    (others new : List (ℕ × Vec Lit Global)) (value : Option (Vec Lit Global)) where
  abbrev pub id : ℕ
  id = first + length table

  -- with it in its cell each id has the clause that it had
  pub same_wider : value ≡ lookup (eqb id) others →
      ((q : ℕ) → lookup (eqb q) new ≡ cond (eqb id q) None (lookup (eqb q) others)) → (q : ℕ) →
      derived_at (record { first = first; table = table ++ value ∷ []; others = new }) q
      ≡ derived_at (record { first = first; table = table; others = others }) q
  same_wider is updates q =
      ap (option_map lits_of) (rw (length-push table value)
      (by (nat_lt q first) refl (nat_lt (q - first) (length table)) refl
      (nat_lt (q - first) (length table + 1)) refl))
    where
      other : id ≢ q → lookup (eqb q) new ≡ lookup (eqb q) others
      other apart = updates q
          ∙ ap (λ b. cond b None (lookup (eqb q) others)) (ne_eqb id q apart)

      by : (b : Bool) → nat_lt q first ≡ b → (d : Bool) → nat_lt (q - first) (length table) ≡ d →
          (e : Bool) → nat_lt (q - first) (length table + 1) ≡ e →
          cell_or (cond b None (cond e (Some (q - first)) None)) (table ++ value ∷ [])
          (lookup (eqb q) new)
          ≡ cell_or (cond b None (cond d (Some (q - first)) None)) table (lookup (eqb q) others)
      by true below d _ e _ =
          other (λ same. absurd (omega (arith, ltb-true q first below, same)))
      by false above true within true _ =
          get_or-front table value (q - first)
          (omega (arith, ltb-true (q - first) (length table) within))
      by false above true within false past =
          absurd (omega (
            arith,
            ltb-true (q - first) (length table) within,
            ltb-false (q - first) (length table + 1) past,
          ))
      by false above false past true here =
          let at : q - first ≡ length table =
          omega (
            arith,
            ltb-false (q - first) (length table) past,
            ltb-true (q - first) (length table + 1) here,
          ) in
          let same : id ≡ q = omega (arith, ltb-false q first above, at) in
          ap (λ n. get_or (table ++ value ∷ []) n None) at ∙ get_or-last table value ∙ is
          ∙ ap (λ n. lookup (eqb n) others) same
      by false above false past false beyond =
          other (λ same. absurd (omega (
            arith,
            ltb-false q first above,
            ltb-false (q - first) (length table + 1) beyond,
            same,
          )))
