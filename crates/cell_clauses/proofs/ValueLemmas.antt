-- Truth values of the variables, by what nets use and come by.
use Rattle.std.proofs.Common.{◌≡◌, ℕ, ◌+◌, ◌-◌, ◌*◌, ◌/◌, ◌%◌, ◌<◌, Bool, true, false, List, ◌∷◌, length, refl, ap, ◌∙◌, arith, mul_comm}
use Rattle.std.specs.Prelude.{IsTrue, filter, if◌then◌else◌, map, nat_lt, not}
use Rattle.std.proofs.lemmas.Bool.Decides.{Decides-ltb}
use Rattle.std.proofs.lemmas.List.FromFn.{get_or-map-range_with_len, length-map-range_with_len}
use Rattle.std.proofs.lemmas.Nat.{div-mul-add, mod-mul-add, mul-add-lt}
use Rattle.route_encode.proofs.Models.{true-here, true-later}
use Rattle.sat_clause.specs.Formula.{IsTrueClause, makes_true}
use Rattle.sat_clause.specs.Literal.{Clause}
use Rattle.cell_clauses.specs.Clauses.{below}
use Rattle.cell_clauses.specs.Frames.{Frame}
use Rattle.cell_clauses.specs.Places.{entry_count, entry_place, has, lacks, pin_count, tally_count, tally_place, use_count, use_place, variable_count}

pub below-true : (a b : ℕ) → a < b → nat_lt a b ≡ true
below-true a b h = (Decides-ltb a b).1 h

pub not-below : (a b : ℕ) → ¬ (a < b) → nat_lt a b ≡ false
not-below a b h = go (nat_lt a b) refl
  where
    go : (t : Bool) → nat_lt a b ≡ t → nat_lt a b ≡ false
    go true e = absurd (h ((Decides-ltb a b).0 e))
    go false e = e

module _ (f : Frame) (uses entry : ℕ → ℕ → Bool) where
  abbrev cells : ℕ
  cells = length f.cells

  -- how many of the first nets use a cell
  abbrev pub tally : (k c : ℕ) → ℕ
  tally k c = length (filter (λ i. uses i c) (below k))

  abbrev entry_value : ℕ → Bool
  entry_value q = entry (q / pin_count f) (q % pin_count f)

  abbrev later_value : ℕ → Bool
  later_value q = if nat_lt q (tally_count f)
      then nat_lt (q % f.width) (tally (q / f.width / cells) (q / f.width % cells))
      else entry_value (q - tally_count f)

  -- the value of the variable at a place
  abbrev pub value : (place : ℕ) → Bool
  value place = if nat_lt place (use_count f) then uses (place / cells) (place % cells)
      else later_value (place - use_count f)

  abbrev pub values : List Bool
  values = map value (below (variable_count f))

  pub length-values : length values ≡ variable_count f
  length-values = length-map-range_with_len value 0 (variable_count f)

  -- a net and a cell
  module _ (k c : ℕ) (net : k < length f.nets) (cell : c < cells) where
    use-low : use_place f k c < use_count f
    use-low = let h = mul-add-lt k cells c (length f.nets) net cell in
        omega (arith, h, mul_comm cells (length f.nets))

    pub use-within : use_place f k c < variable_count f
    use-within = omega (arith, use-low)

    pub use-value : value (use_place f k c) ≡ uses k c
    use-value = rw (
      below-true (use_place f k c) (use_count f) use-low,
      div-mul-add k cells c cell,
      mod-mul-add k cells c cell,
    ) refl

  -- the first nets, a cell and a number
  module _ (k c j : ℕ) (net : k < length f.nets + 1) (cell : c < cells) (low : j < f.width) where
    abbrev row : ℕ
    row = k * cells + c

    abbrev place : ℕ
    place = row * f.width + j

    row-low : row < (length f.nets + 1) * cells
    row-low = let h = mul-add-lt k cells c (length f.nets + 1) net cell in
        omega (arith, h, mul_comm cells (length f.nets + 1))

    place-low : place < tally_count f
    place-low =
        let h = mul-add-lt row f.width j ((length f.nets + 1) * cells) row-low low in
        omega (arith, h, mul_comm f.width ((length f.nets + 1) * cells))

    pub tally-within : tally_place f k c j < variable_count f
    tally-within = omega (arith, place-low)

    behind : tally_place f k c j - use_count f ≡ place
    behind = omega arith

    pub tally-value : value (tally_place f k c j) ≡ nat_lt j (tally k c)
    tally-value = rw (
      not-below (tally_place f k c j) (use_count f) (λ h. omega (arith, h)),
      behind,
      below-true place (tally_count f) place-low,
      div-mul-add row f.width j low,
      mod-mul-add row f.width j low,
      div-mul-add k cells c cell,
      mod-mul-add k cells c cell,
    ) refl

  -- an arrival and a pin
  module _ (a number : ℕ) (arrival : a < length f.arrivals) (pin : number < pin_count f) where
    abbrev spot : ℕ
    spot = a * pin_count f + number

    spot-low : spot < entry_count f
    spot-low = let h = mul-add-lt a (pin_count f) number (length f.arrivals) arrival pin in
        omega (arith, h, mul_comm (pin_count f) (length f.arrivals))

    pub entry-within : entry_place f a number < variable_count f
    entry-within = omega (arith, spot-low)

    first-off : entry_place f a number - use_count f ≡ tally_count f + spot
    first-off = omega arith

    second-off : tally_count f + spot - tally_count f ≡ spot
    second-off = omega arith

    pub entry-value : value (entry_place f a number) ≡ entry a number
    entry-value = rw (
      not-below (entry_place f a number) (use_count f) (λ h. omega (arith, h)),
      first-off,
      not-below (tally_count f + spot) (tally_count f) (λ h. omega (arith, h)),
      second-off,
      div-mul-add a (pin_count f) number pin,
      mod-mul-add a (pin_count f) number pin,
    ) refl

  -- ---- what makes literals and clauses true

  pub has-true : (p : ℕ) → p < variable_count f → value p ≡ true
      → IsTrue (makes_true values (has p))
  has-true p h e =
      get_or-map-range_with_len value 0 (variable_count f) p p false h (omega arith) ∙ e

  pub lacks-true : (p : ℕ) → p < variable_count f → value p ≡ false
      → IsTrue (makes_true values (lacks p))
  lacks-true p h e = ap not
      (get_or-map-range_with_len value 0 (variable_count f) p p true h (omega arith) ∙ e)

  pub unless : (p : ℕ) (rest : Clause) → p < variable_count f
      → (value p ≡ true → IsTrueClause values rest) → IsTrueClause values (lacks p ∷ rest)
  unless p rest h more = go (value p) refl
    where
      go : (t : Bool) → value p ≡ t → IsTrueClause values (lacks p ∷ rest)
      go true e = true-later values (lacks p) rest (more e)
      go false e = true-here values (lacks p) rest (lacks-true p h e)
