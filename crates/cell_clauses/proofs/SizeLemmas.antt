-- How many clauses count the nets of a window, and how many literals these have.
use Rattle.std.proofs.Common.{◌≡◌, ℕ, suc, ◌+◌, ◌*◌, ◌≤◌, Bool, true, false, List, [], ◌∷◌, length, refl, sym, ap, subst, ◌∙◌, arith, mul_assoc, mul-add, mul-one}
use Rattle.std.specs.Prelude.{flat_map, if◌then◌else◌, nat_lt}
use Rattle.std.proofs.lemmas.List.FromFn.{length-range_with_len}
use Rattle.std.proofs.lemmas.Nat.{mul-le}
use Rattle.std.proofs.lemmas.List.Sums.{sum_by-append}
use Rattle.list_laws.proofs.Rows.{length-rows}
use Rattle.route_encode.specs.Adding.{lit_count}
use Rattle.sat_clause.specs.Literal.{Clause}
use Rattle.sat_clause.specs.declared.literal.Lit.{Lit}
use Rattle.cell_clauses.specs.Clauses.{below, counts_at, first_at, more_at, steps_at, tallies_at}
use Rattle.cell_clauses.specs.Places.{has, tally_at}

-- rows with at most so many literals each
lits-rows : {A : Type 0} (f : A → List Clause) (m : ℕ) (xs : List A)
    → ((x : A) → lit_count (f x) ≤ m) → lit_count (flat_map f xs) ≤ length xs * m
lits-rows f m [] h = omega arith
lits-rows f m (x ∷ xs) h =
    let here = h x in
    let rest = lits-rows f m xs h in
    rw (sum_by-append length (f x) (flat_map f xs)) (omega (arith, here, rest))

one-if : (t : Bool) (l : Lit) → length (if t then l ∷ [] else []) ≤ 1
one-if true l = omega arith
one-if false l = omega arith

module _ (nets cells width : ℕ) where
  more-short : (k c j : ℕ) → length (more_at nets cells width k c j) ≤ 1
  more-short k c j = one-if (nat_lt j width) (has (tally_at nets cells width k c j))

  length-tallies : (k c : ℕ) → length (tallies_at nets cells width k c) ≡ 1 + width * 2
  length-tallies k c =
      let steps : length (flat_map (steps_at nets cells width k c) (below width))
      ≡ length (below width) * 2 = length-rows (steps_at nets cells width k c) 2 (below width)
      (λ j. refl) in
      let all : length (below width) ≡ width = length-range_with_len 0 width in
      let one : suc (width * 2) ≡ 1 + width * 2 = omega arith in
      ap suc (steps ∙ ap (λ (n : ℕ). n * 2) all) ∙ one

  length-counts : (k : ℕ) → length (counts_at nets cells width k) ≡ cells * (1 + width * 2)
  length-counts k =
      length-rows (tallies_at nets cells width k) (1 + width * 2) (below cells) (length-tallies k)
      ∙ ap (λ (n : ℕ). n * (1 + width * 2)) (length-range_with_len 0 cells)

  -- a product of three, times a sum
  spread : (a b : ℕ) → nets * (cells * (a + width * b)) ≡ nets * cells * a + nets * cells * width * b
  spread a b =
      sym (mul_assoc nets cells (a + width * b)) ∙ mul-add (nets * cells) a (width * b)
      ∙ ap (λ (n : ℕ). nets * cells * a + n) (sym (mul_assoc (nets * cells) width b))

  pub length-all-counts : length (flat_map (counts_at nets cells width) (below nets))
      ≡ nets * cells + nets * cells * width * 2
  length-all-counts =
      length-rows (counts_at nets cells width) (cells * (1 + width * 2)) (below nets) length-counts
      ∙ ap (λ (n : ℕ). n * (cells * (1 + width * 2))) (length-range_with_len 0 nets)
      ∙ spread 1 2 ∙ ap (λ (n : ℕ). n + nets * cells * width * 2) (mul-one (nets * cells))

  lits-steps : (k c j : ℕ) → lit_count (steps_at nets cells width k c j) ≤ 5
  lits-steps k c j = let more = more-short (k + 1) c (j + 1) in omega (arith, more)

  lits-tallies : (k c : ℕ) → lit_count (tallies_at nets cells width k c) ≤ 2 + width * 5
  lits-tallies k c =
      let more = more-short (k + 1) c 0 in
      let steps : lit_count (flat_map (steps_at nets cells width k c) (below width)) ≤ width * 5 =
      subst (λ (n : ℕ). lit_count (flat_map (steps_at nets cells width k c) (below width)) ≤ n * 5)
      (length-range_with_len 0 width)
      (lits-rows (steps_at nets cells width k c) 5 (below width) (lits-steps k c)) in
      let all = sum_by-append length (first_at nets cells width k c ∷ [])
      (flat_map (steps_at nets cells width k c) (below width)) in
      omega (arith, more, steps, all)

  lits-counts : (k : ℕ) → lit_count (counts_at nets cells width k) ≤ cells * (2 + width * 5)
  lits-counts k =
      subst (λ (n : ℕ). lit_count (counts_at nets cells width k) ≤ n * (2 + width * 5))
      (length-range_with_len 0 cells)
      (lits-rows (tallies_at nets cells width k) (2 + width * 5) (below cells) (lits-tallies k))

  lits-rows-all : lit_count (flat_map (counts_at nets cells width) (below nets))
      ≤ nets * (cells * (2 + width * 5))
  lits-rows-all =
      subst (λ (n : ℕ). lit_count (flat_map (counts_at nets cells width) (below nets))
      ≤ n * (cells * (2 + width * 5))) (length-range_with_len 0 nets)
      (lits-rows (counts_at nets cells width) (cells * (2 + width * 5)) (below nets) lits-counts)

  pub lits-all-counts : lit_count (flat_map (counts_at nets cells width) (below nets))
      ≤ nets * cells * 2 + nets * cells * width * 5
  lits-all-counts =
      subst (λ (n : ℕ). lit_count (flat_map (counts_at nets cells width) (below nets)) ≤ n)
      (spread 2 5) lits-rows-all

  pub few-counted : nets * cells * width ≤ (nets + 1) * cells * width
  few-counted =
      mul-le (nets * cells) width ((nets + 1) * cells) width
      (mul-le nets cells (nets + 1) cells (omega arith) (omega arith)) (omega arith)
