-- How many cells the cut round a rectangle of corners has.
use Rattle.std.proofs.Common.{◌≡◌, ℕ, zero, suc, ◌+◌, ◌-◌, ◌*◌, ◌<◌, ◌≤◌, Bool, true, false, cond, List, ◌∷◌, length, length-append, refl, ap, ◌∙◌, inl, inr, arith}
use Rattle.std.specs.Prelude.{◌&&◌, ◌||◌, not, min, max, nat_le, filter, flat_map, map}
use Rattle.std.specs.List.{range_with_len}
use Rattle.std.proofs.Math.Nat.{mul_comm}
use Rattle.std.proofs.lemmas.Bool.{cases_lt, le-leb, leb-true, lt-leb}
use Rattle.std.proofs.lemmas.List.Elements.{filter-append}
use Rattle.fpga_types.specs.Size.{Size}
use Rattle.fpga_types.specs.declared.grid.Axis.TheVariants.{X, Y}
use Rattle.fpga_types.specs.declared.grid.Cell.{Cell}
use Rattle.route_bound.specs.Corners.{is_cut_cell}
use Rattle.route_bound.specs.Crossing.{cut_cells}
use Rattle.route_bound.specs.Ranges.{IsRange, corners_of, cut_size, is_between, side_count}
use Rattle.route_bound.specs.declared.range.CornerRange.{CornerRange}

-- how many of n numbers from a on pass
abbrev passing : (ℕ → Bool) → (a n : ℕ) → ℕ
passing p a zero = 0
passing p a (suc n) = cond (p a) 1 0 + passing p (a + 1) n

-- ---- numbers between two

between-yes : (low high n : ℕ) → low ≤ n → n ≤ high → is_between low high n ≡ true
between-yes low high n a b = rw (le-leb low n a, le-leb n high b) refl

between-low : (low high n : ℕ) → n < low → is_between low high n ≡ false
between-low low high n a = rw (lt-leb low n a) refl

and-false : (b c : Bool) → c ≡ false → (b && c) ≡ false
and-false true c e = e
and-false false c e = refl

between-high : (low high n : ℕ) → high < n → is_between low high n ≡ false
between-high low high n a = and-false (nat_le low n) (nat_le n high) (lt-leb n high a)

passing-between : (low high a n : ℕ)
    → passing (is_between low high) a n ≡ min (high + 1) (a + n) - max low a
passing-between low high a zero = omega arith
passing-between low high a (suc n) =
    let more = passing-between low high (a + 1) n in
    elim (cases_lt a low) [
      | inl below ↦ rw (between-low low high a below) (omega (arith, more, below))
      | inr from ↦ elim (cases_lt high a) [
        | inl above ↦ rw (between-high low high a above) (omega (arith, more, above, from))
        | inr to ↦ rw (between-yes low high a from to) (omega (arith, more, from, to))
      ]
    ]

-- ---- numbers at which one is between two, and the one before is not, or the other way round

abbrev differ : (a b : Bool) → Bool
differ a b = (a || b) && (not a || not b)

abbrev flips : (low high n : ℕ) → Bool
flips low high n = is_between low low n || is_between (high + 1) (high + 1) n

module _ (low high n : ℕ) (some : low ≤ high) (above : 1 ≤ n) where
  flips-is : differ (is_between low high (n - 1)) (is_between low high n) ≡ flips low high n
  flips-is = elim (cases_lt n low) [
    | inl under ↦
        rw (
          between-low low high (n - 1) (omega (arith, under)),
          between-low low high n under,
          between-low low low n under,
          between-low (high + 1) (high + 1) n (omega (arith, under, some)),
        ) refl
    | inr from ↦ elim (cases_lt low n) [
      | inr to ↦
          rw (
            between-low low high (n - 1) (omega (arith, to, above)),
            between-yes low high n from (omega (arith, to, some)),
            between-yes low low n from to,
          ) refl
      | inl past ↦ elim (cases_lt high n) [
        | inr within ↦
            rw (
              between-yes low high (n - 1) (omega (arith, past)) (omega (arith, within)),
              between-yes low high n from within,
              between-high low low n past,
              between-low (high + 1) (high + 1) n (omega (arith, within)),
            ) refl
        | inl over ↦ elim (cases_lt (high + 1) n) [
          | inr next ↦
              rw (
                between-yes low high (n - 1) (omega (arith, past)) (omega (arith, next)),
                between-high low high n over,
                between-high low low n past,
                between-yes (high + 1) (high + 1) n (omega (arith, over)) next,
              ) refl
          | inl far ↦
              rw (
                between-high low high (n - 1) (omega (arith, far)),
                between-high low high n over,
                between-high low low n past,
                between-high (high + 1) (high + 1) n far,
              ) refl
        ]
      ]
    ]
  ]

passing-either : (p q : ℕ → Bool) → ((n : ℕ) → p n ≡ true → q n ≡ false) → (a n : ℕ)
    → passing (λ m. p m || q m) a n ≡ passing p a n + passing q a n
passing-either p q apart a zero = refl
passing-either p q apart a (suc n) =
    go (p a) (q a) (apart a) (passing-either p q apart (a + 1) n)
  where
    go : (b c : Bool) → (b ≡ true → c ≡ false)
        → passing (λ m. p m || q m) (a + 1) n ≡ passing p (a + 1) n + passing q (a + 1) n
        → cond (b || c) 1 0 + passing (λ m. p m || q m) (a + 1) n
        ≡ cond b 1 0 + passing p (a + 1) n + (cond c 1 0 + passing q (a + 1) n)
    go true c d e = rw (d refl) (omega (arith, e))
    go false true d e = omega (arith, e)
    go false false d e = omega (arith, e)

both-true : (a b : Bool) → (a && b) ≡ true → (a ≡ true) × (b ≡ true)
both-true true b h = (refl, h)
both-true false b h = cc

passing-flips : (low high most : ℕ) → low ≤ high → high ≤ most
    → passing (flips low high) 1 most ≡ side_count low high most
passing-flips low high most some within =
    let apart : (n : ℕ) → is_between low low n ≡ true → is_between (high + 1) (high + 1) n ≡ false =
    λ n h. (let at = leb-true n low (both-true (nat_le low n) (nat_le n low) h).1 in
    between-low (high + 1) (high + 1) n (omega (arith, at, some))) in
    let sum = passing-either (is_between low low) (is_between (high + 1) (high + 1)) apart 1 most in
    let first = passing-between low low 1 most in
    let second = passing-between (high + 1) (high + 1) 1 most in
    elim (cases_lt 0 low) [
      | inl off ↦ elim (cases_lt high most) [
        | inl on ↦ rw (le-leb 1 low off, le-leb (suc high) most on)
            (omega (arith, sum, first, second, off, on, some, within))
        | inr end ↦ rw (le-leb 1 low off, lt-leb (suc high) most (omega (arith, end)))
            (omega (arith, sum, first, second, off, end, some, within))
      ]
      | inr edge ↦ elim (cases_lt high most) [
        | inl on ↦ rw (lt-leb 1 low (omega (arith, edge)), le-leb (suc high) most on)
            (omega (arith, sum, first, second, edge, on, some, within))
        | inr end ↦ rw (
          lt-leb 1 low (omega (arith, edge)),
          lt-leb (suc high) most (omega (arith, end)),
        ) (omega (arith, sum, first, second, edge, end, some, within))
      ]
    ]

-- ---- cells by row and column

module _ (p : Cell → Bool) where
  row : (g : ℕ → Cell) (b : Bool) (r : ℕ → Bool) (a n : ℕ)
      → ((x : ℕ) → a ≤ x → p (g x) ≡ (b && r x))
      → length (filter p (map g (range_with_len a n))) ≡ cond b (passing r a n) 0
  row g true r a zero is = refl
  row g false r a zero is = refl
  row g b r a (suc n) is =
      rw (is a (omega arith))
      (go b (r a) (row g b r (a + 1) n (λ x above. is x (omega (arith, above)))))
    where
      go : (b here : Bool)
          → length (filter p (map g (range_with_len (a + 1) n)))
          ≡ cond b (passing r (a + 1) n) 0
          → length (cond (b && here) (g a ∷ filter p (map g (range_with_len (a + 1) n)))
          (filter p (map g (range_with_len (a + 1) n))))
          ≡ cond b (cond here 1 0 + passing r (a + 1) n) 0
      go true true e = omega (arith, e)
      go true false e = omega (arith, e)
      go false here e = e

  rows : (f : ℕ → ℕ → Cell) (q r : ℕ → Bool) (a n c m : ℕ)
      → ((x y : ℕ) → a ≤ x → c ≤ y → p (f x y) ≡ (q y && r x))
      → length (filter p (flat_map (λ y. map (λ x. f x y) (range_with_len a n))
      (range_with_len c m))) ≡ passing q c m * passing r a n
  rows f q r a n c zero is = omega arith
  rows f q r a n c (suc m) is =
      let first = row (λ x. f x c) (q c) r a n (λ x above. is x c above (omega arith)) in
      let more = rows f q r a n (c + 1) m (λ x y above below. is x y above (omega (arith, below))) in
      let whole = ap length (filter-append p (map (λ x. f x c) (range_with_len a n))
      (flat_map (λ y. map (λ x. f x y) (range_with_len a n)) (range_with_len (c + 1) m)))
      ∙ length-append (filter p (map (λ x. f x c) (range_with_len a n)))
      (filter p (flat_map (λ y. map (λ x. f x y) (range_with_len a n))
      (range_with_len (c + 1) m))) in
      whole ∙ go (q c) (passing r a n) first more
    where
      go : (b : Bool) (k : ℕ)
          → length (filter p (map (λ x. f x c) (range_with_len a n))) ≡ cond b k 0
          → length (filter p (flat_map (λ y. map (λ x. f x y) (range_with_len a n))
          (range_with_len (c + 1) m))) ≡ passing q (c + 1) m * k
          → length (filter p (map (λ x. f x c) (range_with_len a n)))
          + length (filter p (flat_map (λ y. map (λ x. f x y) (range_with_len a n))
          (range_with_len (c + 1) m))) ≡ (cond b 1 0 + passing q (c + 1) m) * k
      go true k e h = omega (arith, e, h)
      go false k e h = omega (arith, e, h)

-- ---- the cells of a cut

x-mix : (a b j : Bool)
    → (((a && j) || (b && j)) && (not (a && j) || not (b && j))) ≡ (j && differ a b)
x-mix true true true = refl
x-mix true false true = refl
x-mix false true true = refl
x-mix false false true = refl
x-mix true true false = refl
x-mix true false false = refl
x-mix false true false = refl
x-mix false false false = refl

y-mix : (i a b : Bool)
    → (((i && a) || (i && b)) && (not (i && a) || not (i && b))) ≡ (differ a b && i)
y-mix true true true = refl
y-mix true true false = refl
y-mix true false true = refl
y-mix true false false = refl
y-mix false true true = refl
y-mix false true false = refl
y-mix false false true = refl
y-mix false false false = refl

module _ (grid : Size) (range : CornerRange) (is : IsRange grid range) where
  abbrev inside : Cell → Bool
  inside = is_cut_cell (corners_of range)

  abbrev in_column : ℕ → Bool
  in_column = is_between range.low.i range.high.i

  abbrev in_row : ℕ → Bool
  in_row = is_between range.low.j range.high.j

  x-cell : (x y : ℕ) → 1 ≤ x → 0 ≤ y → inside (record { axis = X; x = x; y = y })
      ≡ (in_row y && flips range.low.i range.high.i x)
  x-cell x y above any =
      x-mix (in_column (x - 1)) (in_column x) (in_row y)
      ∙ ap (λ (b : Bool). in_row y && b)
      (flips-is range.low.i range.high.i x is.columns above)

  y-cell : (x y : ℕ) → 0 ≤ x → 1 ≤ y → inside (record { axis = Y; x = x; y = y })
      ≡ (flips range.low.j range.high.j y && in_column x)
  y-cell x y any above =
      y-mix (in_column x) (in_row (y - 1)) (in_row y)
      ∙ ap (λ (b : Bool). b && in_column x)
      (flips-is range.low.j range.high.j y is.rows above)

  abbrev x_cells : List Cell
  x_cells = flat_map (λ y. map (λ x. record { axis = X; x = x; y = y }) (range_with_len 1 grid.nx))
      (range_with_len 0 (grid.ny + 1))

  abbrev y_cells : List Cell
  y_cells = flat_map (λ y. map (λ x. record { axis = Y; x = x; y = y })
      (range_with_len 0 (grid.nx + 1))) (range_with_len 1 grid.ny)

  pub size-is : length (cut_cells grid (corners_of range)) ≡ cut_size grid range
  size-is =
      let xs = rows inside (λ x y. record { axis = X; x = x; y = y }) in_row
      (flips range.low.i range.high.i) 1 grid.nx 0 (grid.ny + 1) x-cell in
      let ys = rows inside (λ x y. record { axis = Y; x = x; y = y })
      (flips range.low.j range.high.j) in_column 0 (grid.nx + 1) 1 grid.ny y-cell in
      let across = passing-flips range.low.i range.high.i grid.nx is.columns is.within_x in
      let along = passing-flips range.low.j range.high.j grid.ny is.rows is.within_y in
      let tall : passing in_row 0 (grid.ny + 1) ≡ range.high.j + 1 - range.low.j =
      (let e = passing-between range.low.j range.high.j 0 (grid.ny + 1) in
      omega (arith, e, is.rows, is.within_y)) in
      let wide : passing in_column 0 (grid.nx + 1) ≡ range.high.i + 1 - range.low.i =
      (let e = passing-between range.low.i range.high.i 0 (grid.nx + 1) in
      omega (arith, e, is.columns, is.within_x)) in
      ap length (filter-append inside x_cells y_cells)
      ∙ length-append (filter inside x_cells) (filter inside y_cells)
      ∙ rw (xs, ys, across, along, tall, wide)
      (omega (
        arith,
        mul_comm (side_count range.low.j range.high.j grid.ny)
            (range.high.i + 1 - range.low.i),
      ))
