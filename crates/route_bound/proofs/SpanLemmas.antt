-- Which straight lines of a kind a net can cross, by the places of its terminals.
use Rattle.std.proofs.Common.{◌≡◌, ℕ, suc, ◌+◌, ◌-◌, ◌<◌, ◌≤◌, ◌⊎◌, Bool, true, false, List, [], ◌∷◌, Option, Some, None, get_or, length, refl, sym, ap, ◌∙◌, subst, inl, inr, arith}
use Rattle.std.specs.Prelude.{All, ◌&&◌, ◌||◌, nat_le, nat_lt, not, if◌then◌else◌, option_map}
use Rattle.std.specs.List.{list_any}
use Rattle.std.proofs.lemmas.Bool.{cases_lt, false≢true, leb-true, le-leb}
use Rattle.std.proofs.lemmas.Bool.Decides.{nat_tests}
use Rattle.std.proofs.lemmas.List.Folds.{list_any_at}
use Rattle.std.proofs.lemmas.Option.{slice_get-get_or}
use Rattle.fpga_types.specs.Fabric.{is_cell, is_channel_place}
use Rattle.fpga_types.specs.Problem.{PlacedNetlist}
use Rattle.fpga_types.specs.Size.{Size}
use Rattle.fpga_types.specs.Terminals.{terminal_in}
use Rattle.fpga_types.specs.declared.arch.SideSet.{SideSet}
use Rattle.fpga_types.specs.declared.grid.Axis.{Axis}
use Rattle.fpga_types.specs.declared.grid.Axis.TheVariants.{X, Y}
use Rattle.fpga_types.specs.declared.grid.Cell.{Cell}
use Rattle.fpga_types.specs.declared.grid.Side.{Side}
use Rattle.fpga_types.specs.declared.grid.Side.TheVariants.{Left, Right, Bottom, Top}
use Rattle.fpga_types.specs.declared.grid.SwitchAt.{SwitchAt}
use Rattle.fpga_types.specs.declared.netlist.Net.{Net}
use Rattle.fpga_types.specs.declared.netlist.PinRef.{PinRef}
use Rattle.fpga_types.specs.declared.problem.Terminal.{Terminal}
use Rattle.route_bound.specs.Corners.{Corners, far_corner, has_corner_in, has_corner_out, near_corner}
use Rattle.route_bound.specs.Lines.{crosses_line}
use Rattle.route_bound.specs.Ranges.{corners_of, line_count, line_range}
use Rattle.route_bound.specs.Reaches.{has_cell_along, is_off_end, on_side, reach_along, reach_of, side_cell, terminal_sides}
use Rattle.route_bound.specs.Spans.{AreBetween, Covers, IsOffSpan, Widens, WidensByAny, has_some, is_pin_inside, is_pin_outside, place_along, span_of}
use Rattle.route_bound.specs.Standings.{is_sink_across, standing_of}
use Rattle.route_bound.specs.declared.range.LineKind.{LineKind}
use Rattle.route_bound.specs.declared.range.LineKind.TheVariants.{Column, Row}
use Rattle.route_bound.specs.declared.reach.Reach.{Reach}
use Rattle.route_bound.specs.declared.span.Span.{Span}
use Rattle.route_bound.specs.declared.span.Spans.{Spans}
use Rattle.route_bound.proofs.AcrossLemmas.{across-sinks, crosses-is}

is-le : (a b : ℕ) → a ≤ b → nat_le a b ≡ true
is-le a b h = le-leb a b h

not-le : (a b : ℕ) → b < a → nat_le a b ≡ false
not-le a b h = grind (arith, nat_tests)

and-false : (b : Bool) → (b && false) ≡ false
and-false true = refl
and-false false = refl

and-first : (a b : Bool) → (a && b) ≡ true → a ≡ true
and-first true b h = refl
and-first false b h = absurd (false≢true h)

and-second : (a b : Bool) → (a && b) ≡ true → b ≡ true
and-second true b h = h
and-second false b h = absurd (false≢true h)

-- ---- corners beside a straight line

-- the column of a corner, or its row
abbrev along : LineKind → SwitchAt → ℕ
along Column at = at.i
along Row at = at.j

abbrev line : Size → LineKind → ℕ → Corners
line grid kind c = corners_of (line_range grid kind c)

record IsWithin (grid : Size) (at : SwitchAt) : Type 0 where
  columns : at.i ≤ grid.nx
  rows : at.j ≤ grid.ny

corner-off : (grid : Size) (kind : LineKind) (c : ℕ) (at : SwitchAt) → c < along kind at
    → line grid kind c at ≡ false
corner-off grid Column c at h = rw (is-le 0 at.i (omega arith), not-le at.i c h) refl
corner-off grid Row c at h =
    rw (is-le 0 at.j (omega arith), not-le at.j c h)
    (and-false (nat_le 0 at.i && nat_le at.i grid.nx))

corner-on : (grid : Size) (kind : LineKind) (c : ℕ) (at : SwitchAt) → along kind at ≤ c
    → IsWithin grid at → line grid kind c at ≡ true
corner-on grid Column c at h is =
    rw (
      is-le 0 at.i (omega arith),
      is-le 0 at.j (omega arith),
      is-le at.i c h,
      is-le at.j grid.ny is.rows,
    ) refl
corner-on grid Row c at h is =
    rw (
      is-le 0 at.i (omega arith),
      is-le 0 at.j (omega arith),
      is-le at.i grid.nx is.columns,
      is-le at.j c h,
    ) refl

-- ---- cells beside a place

abbrev near : Cell → SwitchAt
near cell = near_corner cell.axis cell.x cell.y

abbrev far : Cell → SwitchAt
far cell = far_corner cell.x cell.y

-- the number of the line behind a place
abbrev behind_place : LineKind → (x y : ℕ) → ℕ
behind_place Column x y = x
behind_place Row x y = y

record IsBeside (kind : LineKind) (x y : ℕ) (cell : Cell) : Type 0 where
  near_above : behind_place kind x y - 1 ≤ along kind (near cell)
  near_below : along kind (near cell) ≤ behind_place kind x y
  far_above : behind_place kind x y - 1 ≤ along kind (far cell)
  far_below : along kind (far cell) ≤ behind_place kind x y

beside : (kind : LineKind) (x y : ℕ) (side : Side) → IsBeside kind x y (side_cell x y side)
beside Column x y Left = record {
  near_above = omega arith;
  near_below = omega arith;
  far_above = omega arith;
  far_below = omega arith;
}
beside Column x y Right = record {
  near_above = omega arith;
  near_below = omega arith;
  far_above = omega arith;
  far_below = omega arith;
}
beside Column x y Bottom = record {
  near_above = omega arith;
  near_below = omega arith;
  far_above = omega arith;
  far_below = omega arith;
}
beside Column x y Top = record {
  near_above = omega arith;
  near_below = omega arith;
  far_above = omega arith;
  far_below = omega arith;
}
beside Row x y Left = record {
  near_above = omega arith;
  near_below = omega arith;
  far_above = omega arith;
  far_below = omega arith;
}
beside Row x y Right = record {
  near_above = omega arith;
  near_below = omega arith;
  far_above = omega arith;
  far_below = omega arith;
}
beside Row x y Bottom = record {
  near_above = omega arith;
  near_below = omega arith;
  far_above = omega arith;
  far_below = omega arith;
}
beside Row x y Top = record {
  near_above = omega arith;
  near_below = omega arith;
  far_above = omega arith;
  far_below = omega arith;
}

-- the corners of a cell of the array
ends-within : (grid : Size) (axis : Axis) (x y : ℕ) → is_channel_place grid axis x y ≡ true
    → IsWithin grid (near_corner axis x y) × IsWithin grid (far_corner x y)
ends-within grid X x y h =
    let first = and-first (nat_le 1 x && nat_le x grid.nx) (nat_le y grid.ny) h in
    let columns = leb-true x grid.nx (and-second (nat_le 1 x) (nat_le x grid.nx) first) in
    let rows = leb-true y grid.ny
    (and-second (nat_le 1 x && nat_le x grid.nx) (nat_le y grid.ny) h) in (
      record { columns = omega (arith, columns); rows = rows },
      record { columns = columns; rows = rows },
    )
ends-within grid Y x y h =
    let first = and-first (nat_le x grid.nx && nat_le 1 y) (nat_le y grid.ny) h in
    let columns = leb-true x grid.nx (and-first (nat_le x grid.nx) (nat_le 1 y) first) in
    let rows = leb-true y grid.ny
    (and-second (nat_le x grid.nx && nat_le 1 y) (nat_le y grid.ny) h) in (
      record { columns = columns; rows = omega (arith, rows) },
      record { columns = columns; rows = rows },
    )

-- no cell beside a place is inside of a line before it, and none outside of one behind it
cell-before : (grid : Size) (kind : LineKind) (c x y : ℕ) (cell : Cell) → IsBeside kind x y cell
    → c < behind_place kind x y - 1 → has_corner_in (line grid kind c) cell ≡ false
cell-before grid kind c x y cell is h =
    rw (
      corner-off grid kind c (near cell) (omega (arith, is.near_above, h)),
      corner-off grid kind c (far cell) (omega (arith, is.far_above, h)),
    ) refl

cell-behind : (grid : Size) (kind : LineKind) (c x y : ℕ) (cell : Cell) → IsBeside kind x y cell
    → is_cell grid cell ≡ true → behind_place kind x y ≤ c
    → has_corner_out (line grid kind c) cell ≡ false
cell-behind grid kind c x y cell is there h =
    let within = ends-within grid cell.axis cell.x cell.y there in
    rw (
      corner-on grid kind c (near cell) (omega (arith, is.near_below, h)) within.0,
      corner-on grid kind c (far cell) (omega (arith, is.far_below, h)) within.1,
    ) refl

-- each is outside of a line before its place, and inside of one behind it
cell-outside : (grid : Size) (kind : LineKind) (c x y : ℕ) (cell : Cell) → IsBeside kind x y cell
    → c < behind_place kind x y - 1 → has_corner_out (line grid kind c) cell ≡ true
cell-outside grid kind c x y cell is h =
    rw (corner-off grid kind c (near cell) (omega (arith, is.near_above, h))) refl

cell-inside : (grid : Size) (kind : LineKind) (c x y : ℕ) (cell : Cell) → IsBeside kind x y cell
    → is_cell grid cell ≡ true → behind_place kind x y ≤ c
    → has_corner_in (line grid kind c) cell ≡ true
cell-inside grid kind c x y cell is there h =
    let within = ends-within grid cell.axis cell.x cell.y there in
    rw (corner-on grid kind c (near cell) (omega (arith, is.near_below, h)) within.0) refl

-- ---- what is reached

on-kept : (has is : Bool) → (has ≡ true → is ≡ true) → on_side has is ≡ true
on-kept true is h = h refl
on-kept false is h = refl

all-kept : (a b c d : Bool) → a ≡ true → b ≡ true → c ≡ true → d ≡ true
    → ((a && b) && (c && d)) ≡ true
all-kept a b c d ha hb hc hd = rw (ha, hb, hc, hd) refl

-- where no cell is reached, all are on each side
none-kept : (l r b t il ir ib it : Bool) → (l || r || b || t) ≡ false
    → ((on_side l il && on_side r ir) && (on_side b ib && on_side t it)) ≡ true
none-kept true r b t il ir ib it h = absurd (false≢true (sym h))
none-kept false true b t il ir ib it h = absurd (false≢true (sym h))
none-kept false false true t il ir ib it h = absurd (false≢true (sym h))
none-kept false false false true il ir ib it h = absurd (false≢true (sym h))
none-kept false false false false il ir ib it h = refl

off-side : (has is : Bool) → (has ≡ true → is ≡ false) → on_side has is ≡ not has
off-side true is h = h refl
off-side false is h = refl

none-along : (l r b t il ir ib it : Bool) → (l || r || b || t) ≡ true
    → on_side l il ≡ not l → on_side r ir ≡ not r → on_side b ib ≡ not b → on_side t it ≡ not t
    → ((on_side l il && on_side r ir) && (on_side b ib && on_side t it)) ≡ false
none-along l r b t il ir ib it some hl hr hb ht = rw (hl, hr, hb, ht) (go l r b t some)
  where
    go : (l r b t : Bool) → (l || r || b || t) ≡ true
        → ((not l && not r) && (not b && not t)) ≡ false
    go true r b t h = refl
    go false true b t h = refl
    go false false true t h = refl
    go false false false true h = refl
    go false false false false h = absurd (false≢true h)

module _ (grid : Size) (kind : LineKind) (c x y : ℕ) (s : SideSet) where
  abbrev r : Reach
  r = reach_along grid x y s

  abbrev cells_in : Cell → Bool
  cells_in = has_corner_in (line grid kind c)

  abbrev cells_out : Cell → Bool
  cells_out = has_corner_out (line grid kind c)

  reached-before : has_some r.sides ≡ true → c < behind_place kind x y - 1
      → (standing_of (line grid kind c) r).inside ≡ false
  reached-before some h =
      none-along r.sides.left r.sides.right r.sides.bottom r.sides.top
      (cells_in (side_cell x y Left)) (cells_in (side_cell x y Right))
      (cells_in (side_cell x y Bottom)) (cells_in (side_cell x y Top)) some
      (side Left r.sides.left) (side Right r.sides.right) (side Bottom r.sides.bottom)
      (side Top r.sides.top)
    where
      side : (at : Side) (has : Bool) → on_side has (cells_in (side_cell x y at)) ≡ not has
      side at has = off-side has (cells_in (side_cell x y at))
          (λ e. cell-before grid kind c x y (side_cell x y at) (beside kind x y at) h)

  reached-behind : has_some r.sides ≡ true → behind_place kind x y ≤ c
      → (standing_of (line grid kind c) r).outside ≡ false
  reached-behind some h =
      none-along r.sides.left r.sides.right r.sides.bottom r.sides.top
      (cells_out (side_cell x y Left)) (cells_out (side_cell x y Right))
      (cells_out (side_cell x y Bottom)) (cells_out (side_cell x y Top)) some
      (side Left s.left) (side Right s.right) (side Bottom s.bottom) (side Top s.top)
    where
      side : (at : Side) (has : Bool)
          → on_side (has && has_cell_along grid x y at) (cells_out (side_cell x y at))
          ≡ not (has && has_cell_along grid x y at)
      side at has = off-side (has && has_cell_along grid x y at) (cells_out (side_cell x y at))
          (λ e. cell-behind grid kind c x y (side_cell x y at) (beside kind x y at)
          (and-second (is_off_end x y at) (is_cell grid (side_cell x y at))
          (and-second has (has_cell_along grid x y at) e)) h)

  reached-outside : c < behind_place kind x y - 1
      → (standing_of (line grid kind c) r).outside ≡ true
  reached-outside h =
      all-kept (on_side r.sides.left (cells_out (side_cell x y Left)))
      (on_side r.sides.right (cells_out (side_cell x y Right)))
      (on_side r.sides.bottom (cells_out (side_cell x y Bottom)))
      (on_side r.sides.top (cells_out (side_cell x y Top)))
      (side Left r.sides.left) (side Right r.sides.right) (side Bottom r.sides.bottom)
      (side Top r.sides.top)
    where
      side : (at : Side) (has : Bool) → on_side has (cells_out (side_cell x y at)) ≡ true
      side at has = on-kept has (cells_out (side_cell x y at))
          (λ e. cell-outside grid kind c x y (side_cell x y at) (beside kind x y at) h)

  reached-inside : behind_place kind x y ≤ c → (standing_of (line grid kind c) r).inside ≡ true
  reached-inside h =
      all-kept (on_side r.sides.left (cells_in (side_cell x y Left)))
      (on_side r.sides.right (cells_in (side_cell x y Right)))
      (on_side r.sides.bottom (cells_in (side_cell x y Bottom)))
      (on_side r.sides.top (cells_in (side_cell x y Top)))
      (side Left s.left) (side Right s.right) (side Bottom s.bottom) (side Top s.top)
    where
      side : (at : Side) (has : Bool)
          → on_side (has && has_cell_along grid x y at) (cells_in (side_cell x y at)) ≡ true
      side at has = on-kept (has && has_cell_along grid x y at) (cells_in (side_cell x y at))
          (λ e. cell-inside grid kind c x y (side_cell x y at) (beside kind x y at)
          (and-second (is_off_end x y at) (is_cell grid (side_cell x y at))
          (and-second has (has_cell_along grid x y at) e)) h)

  none-reached : (cells : Cell → Bool) → has_some r.sides ≡ false
      → ((on_side r.sides.left (cells (side_cell x y Left))
      && on_side r.sides.right (cells (side_cell x y Right)))
      && (on_side r.sides.bottom (cells (side_cell x y Bottom))
      && on_side r.sides.top (cells (side_cell x y Top)))) ≡ true
  none-reached cells none =
      none-kept r.sides.left r.sides.right r.sides.bottom r.sides.top
      (cells (side_cell x y Left)) (cells (side_cell x y Right)) (cells (side_cell x y Bottom))
      (cells (side_cell x y Top)) none

-- ---- the span of what is reached

place-is : (kind : LineKind) (grid : Size) (x y : ℕ) (s : SideSet)
    → place_along kind (reach_along grid x y s) ≡ behind_place kind x y
place-is Column grid x y s = refl
place-is Row grid x y s = refl

module _ (grid : Size) (kind : LineKind) (c limit x y : ℕ) (s : SideSet) where
  abbrev span_if : Bool → Span
  span_if some = if some
      then record {
        low = place_along kind (reach_along grid x y s) - 1;
        high = place_along kind (reach_along grid x y s);
      }
      else record { low = 0; high = limit }

  span-before : c < (span_of kind limit (reach_along grid x y s)).low
      → (standing_of (line grid kind c) (reach_along grid x y s)).inside ≡ false
  span-before = go (has_some (reach_along grid x y s).sides) refl
    where
      go : (some : Bool) → has_some (reach_along grid x y s).sides ≡ some
          → c < (span_if some).low
          → (standing_of (line grid kind c) (reach_along grid x y s)).inside ≡ false
      go true e h = reached-before grid kind c x y s e
          (omega (arith, h, place-is kind grid x y s))
      go false e h = absurd (omega (arith, h))

  span-behind : c < limit → (span_of kind limit (reach_along grid x y s)).high ≤ c
      → (standing_of (line grid kind c) (reach_along grid x y s)).outside ≡ false
  span-behind there = go (has_some (reach_along grid x y s).sides) refl
    where
      go : (some : Bool) → has_some (reach_along grid x y s).sides ≡ some
          → (span_if some).high ≤ c
          → (standing_of (line grid kind c) (reach_along grid x y s)).outside ≡ false
      go true e h = reached-behind grid kind c x y s e
          (omega (arith, h, place-is kind grid x y s))
      go false e h = absurd (omega (arith, h, there))

  span-inside : (span_of kind limit (reach_along grid x y s)).low < c
      → (standing_of (line grid kind c) (reach_along grid x y s)).inside ≡ true
  span-inside = go (has_some (reach_along grid x y s).sides) refl
    where
      go : (some : Bool) → has_some (reach_along grid x y s).sides ≡ some
          → (span_if some).low < c
          → (standing_of (line grid kind c) (reach_along grid x y s)).inside ≡ true
      go true e h = reached-inside grid kind c x y s
          (omega (arith, h, place-is kind grid x y s))
      go false e h = none-reached grid kind c x y s (has_corner_in (line grid kind c)) e

  span-outside : c + 1 < (span_of kind limit (reach_along grid x y s)).high
      → (standing_of (line grid kind c) (reach_along grid x y s)).outside ≡ true
  span-outside = go (has_some (reach_along grid x y s).sides) refl
    where
      go : (some : Bool) → has_some (reach_along grid x y s).sides ≡ some
          → c + 1 < (span_if some).high
          → (standing_of (line grid kind c) (reach_along grid x y s)).outside ≡ true
      go true e h = reached-outside grid kind c x y s
          (omega (arith, h, place-is kind grid x y s))
      go false e h = none-reached grid kind c x y s (has_corner_out (line grid kind c)) e

-- ---- spans that cover pins

any-when : {A : Type 0} (p q : A → Bool) → ((x : A) → p x ≡ true → q x ≡ true) → (xs : List A)
    → list_any p xs ≡ true → list_any q xs ≡ true
any-when p q each [] h = h
any-when p q each (x ∷ xs) h = go (p x) refl h (any-when p q each xs)
  where
    or-second : (b : Bool) → (b || true) ≡ true
    or-second true = refl
    or-second false = refl

    go : (b : Bool) → p x ≡ b → (p x || list_any p xs) ≡ true
        → (list_any p xs ≡ true → list_any q xs ≡ true) → (q x || list_any q xs) ≡ true
    go true e g more = rw (each x e) refl
    go false e g more = rw (more (rw e at g)) (or-second (q x))

either : (a b : Bool) → (a || b) ≡ true → (a ≡ true) ⊎ (b ≡ true)
either true b h = inl refl
either false b h = inr h

-- one of two is inside, and the other outside
across-in : (a d : Bool) → ((a || true) && (true || d)) ≡ true
across-in true d = refl
across-in false d = refl

across-out : (b c : Bool) → ((true || c) && (b || true)) ≡ true
across-out true c = refl
across-out false c = refl

none-of-any : {A : Type 0} (p : A → Bool) (xs : List A) → All (λ x. p x ≡ false) xs
    → list_any p xs ≡ false
none-of-any p [] h = refl
none-of-any p (x ∷ xs) h =
    rw (h 0 x (omega arith)) (none-of-any p xs (λ k d low. h (suc k) d (omega (arith, low))))

-- a pin of some, by another fallback
pub at-place : (pins : List PinRef) (k : ℕ) (a b : PinRef) → k < length pins
    → get_or pins k a ≡ get_or pins k b
at-place pins k a b low =
    let e = sym (slice_get-get_or pins k a low) ∙ slice_get-get_or pins k b low in cc

module _ (placed : PlacedNetlist) (kind : LineKind) where
  abbrev grid : Size
  grid = placed.placement.grid

  abbrev reach : Terminal → Reach
  reach at = reach_of placed.arch grid at

  pub covers-none : (pin : PinRef) (span : Span) → None ≡ option_map reach (terminal_in placed pin)
      → Covers placed kind pin span
  covers-none pin span is = record {
    before = λ at c e h. clash at e;
    behind = λ at c e there h. clash at e;
  }
    where
      clash : (at : Terminal) → terminal_in placed pin ≡ Some at → {A : Type 0} → A
      clash at e = let f : None ≡ Some (reach at) = is ∙ ap (option_map reach) e in cc

  pub covers-some : (pin : PinRef) (r : Reach) (span : Span) (limit : ℕ)
      → Some r ≡ option_map reach (terminal_in placed pin) → limit ≡ line_count grid kind
      → span.low ≤ (span_of kind limit r).low → (span_of kind limit r).high ≤ span.high
      → Covers placed kind pin span
  covers-some pin r span limit is all low high = record {
    before = λ at c e h.
        let same = is-reach at e in
        span-before grid kind c limit at.x at.y (sides at)
        (omega (arith, h, low, ap (λ (q : Reach). (span_of kind limit q).low) same));
    behind = λ at c e there h.
        let same = is-reach at e in
        span-behind grid kind c limit at.x at.y (sides at)
        (omega (arith, there, all))
        (omega (arith, h, high, ap (λ (q : Reach). (span_of kind limit q).high) same));
  }
    where
      sides : Terminal → SideSet
      sides at = terminal_sides placed.arch grid at.x at.y at.label at.number

      is-reach : (at : Terminal) → terminal_in placed pin ≡ Some at → r ≡ reach at
      is-reach at e = let f : Some r ≡ Some (reach at) = is ∙ ap (option_map reach) e in cc

  pub covers-wider : (pin : PinRef) (a b : Span) → Covers placed kind pin a → b.low ≤ a.low
      → a.high ≤ b.high → Covers placed kind pin b
  covers-wider pin a b is low high = record {
    before = λ at c e h. is.before at c e (omega (arith, h, low));
    behind = λ at c e there h. is.behind at c e there (omega (arith, h, high));
  }

  -- one more pin that is covered
  pub covers-more : (pins : List PinRef) (n : ℕ) (d : PinRef) (old new : Span) → n < length pins
      → ((k : ℕ) (e : PinRef) → k < n → Covers placed kind (get_or pins k e) old)
      → Covers placed kind (get_or pins n d) new → new.low ≤ old.low → old.high ≤ new.high
      → (k : ℕ) (e : PinRef) → k < n + 1 → Covers placed kind (get_or pins k e) new
  covers-more pins n d old new there was here low high k e before = elim (cases_lt k n) [
    | inl less ↦ covers-wider (get_or pins k e) old new (was k e less) low high
    | inr not_less ↦
        let same : n ≡ k = omega (arith, before, not_less) in
        subst (λ (p : PinRef). Covers placed kind p new)
        (at-place pins n d e there ∙ ap (λ (j : ℕ). get_or pins j e) same) here
  ]

  -- a net whose terminals are all on one side of a line
  pub not-crossing : (net : Net) (pin : PinRef) (span : Span) → net.driver ≡ Some pin
      → Covers placed kind pin span → All (λ p. Covers placed kind p span) net.sinks
      → IsOffSpan placed kind net span
  not-crossing net pin span drives driver sinks c there off = go (terminal_in placed pin) refl
    where
      no : (o : Option Terminal) (at : Terminal) (p : PinRef) → terminal_in placed pin ≡ Some at
          → terminal_in placed p ≡ o → Covers placed kind p span
          → (c < span.low) ⊎ (span.high ≤ c)
          → is_sink_across placed (line grid kind c) (standing_of (line grid kind c) (reach at)) p
          ≡ false
      no None at p e f is h = rw f refl
      no (Some sink) at p e f is (inl h) =
          rw (f, driver.before at c e h, is.before sink c f h) refl
      no (Some sink) at p e f is (inr h) =
          rw (f, driver.behind at c e there h, is.behind sink c f there h) (and-false _)

      go : (o : Option Terminal) → terminal_in placed pin ≡ o
          → crosses_line placed kind net c ≡ false
      go None e = rw (drives, e) (and-false (not net.global))
      go (Some at) e = rw (
        drives,
        e,
        across-sinks placed (line grid kind c) at net.sinks,
        none-of-any (is_sink_across placed (line grid kind c)
            (standing_of (line grid kind c) (reach at))) net.sinks
            (λ k d low. no (terminal_in placed (get_or net.sinks k d)) at (get_or net.sinks k d) e
            refl (sinks k d low) off),
      ) (and-false (not net.global))

  -- ---- spans that pins make wider

  pub widens-some : (pin : PinRef) (r : Reach) (span wider : Span) (limit : ℕ)
      → Some r ≡ option_map reach (terminal_in placed pin)
      → ((c : ℕ) → wider.low < c → (span.low < c) ⊎ ((span_of kind limit r).low < c))
      → ((c : ℕ) → c + 1 < wider.high → (c + 1 < span.high) ⊎ (c + 1 < (span_of kind limit r).high))
      → Widens placed kind pin span wider
  widens-some pin r span wider limit is low high = record {
    inside = λ c there h. elim (low c h) [
      | inl before ↦ inl before
      | inr here ↦ inr (within c here (terminal_in placed pin) refl)
    ];
    outside = λ c h. elim (high c h) [
      | inl before ↦ inl before
      | inr here ↦ inr (without c here (terminal_in placed pin) refl)
    ];
  }
    where
      sides : Terminal → SideSet
      sides at = terminal_sides placed.arch grid at.x at.y at.label at.number

      is-reach : (at : Terminal) → terminal_in placed pin ≡ Some at → r ≡ reach at
      is-reach at e = let f : Some r ≡ Some (reach at) = is ∙ ap (option_map reach) e in cc

      within : (c : ℕ) → (span_of kind limit r).low < c → (o : Option Terminal)
          → terminal_in placed pin ≡ o → is_pin_inside placed kind c pin ≡ true
      within c h None e = let f : Some r ≡ None = is ∙ ap (option_map reach) e in cc
      within c h (Some at) e = let same = is-reach at e in
          rw e (span-inside grid kind c limit at.x at.y (sides at)
          (omega (arith, h, ap (λ (q : Reach). (span_of kind limit q).low) same)))

      without : (c : ℕ) → c + 1 < (span_of kind limit r).high → (o : Option Terminal)
          → terminal_in placed pin ≡ o → is_pin_outside placed kind c pin ≡ true
      without c h None e = let f : Some r ≡ None = is ∙ ap (option_map reach) e in cc
      without c h (Some at) e = let same = is-reach at e in
          rw e (span-outside grid kind c limit at.x at.y (sides at)
          (omega (arith, h, ap (λ (q : Reach). (span_of kind limit q).high) same)))

  -- one more pin
  pub widens-more : (pins : List PinRef) (n : ℕ) (d : PinRef) (span old new : Span)
      → n < length pins → WidensByAny placed kind pins span old
      → Widens placed kind (get_or pins n d) old new → WidensByAny placed kind pins span new
  widens-more pins n d span old new there was here = record {
    inside = λ c is h. elim (here.inside c is h) [
      | inl before ↦ was.inside c is before
      | inr at ↦ inr (list_any_at (is_pin_inside placed kind c) pins n d there at)
    ];
    outside = λ c h. elim (here.outside c h) [
      | inl before ↦ was.outside c before
      | inr at ↦ inr (list_any_at (is_pin_outside placed kind c) pins n d there at)
    ];
  }

  -- a net whose driver is on the one side of a line and one of its sinks on the other
  module _ (net : Net) (pin : PinRef) (ordinary : net.global ≡ false) (drives : net.driver ≡ Some pin)
      (c : ℕ) where
    abbrev driver_at : Terminal → Bool
    driver_at at = list_any (is_sink_across placed (line grid kind c)
        (standing_of (line grid kind c) (reach at))) net.sinks

    crosses-by : (at : Terminal) → terminal_in placed pin ≡ Some at
        → crosses_line placed kind net c ≡ driver_at at
    crosses-by at e = crosses-is placed (line grid kind c) net pin (reach at) ordinary drives
        (ap (option_map reach) (sym e))

    crosses-in : is_pin_outside placed kind c pin ≡ true
        → list_any (is_pin_inside placed kind c) net.sinks ≡ true
        → crosses_line placed kind net c ≡ true
    crosses-in out any = go (terminal_in placed pin) refl
      where
        across : (at : Terminal) (p : PinRef) (o : Option Terminal)
            → (standing_of (line grid kind c) (reach at)).outside ≡ true
            → terminal_in placed p ≡ o → is_pin_inside placed kind c p ≡ true
            → is_sink_across placed (line grid kind c) (standing_of (line grid kind c) (reach at)) p
            ≡ true
        across at p None outside e is = absurd (false≢true (rw e at is))
        across at p (Some sink) outside e is =
            let within : (standing_of (line grid kind c) (reach sink)).inside ≡ true = rw e at is in
            rw (e, outside, within)
            (across-in (standing_of (line grid kind c) (reach at)).inside
            (standing_of (line grid kind c) (reach sink)).outside)

        go : (o : Option Terminal) → terminal_in placed pin ≡ o
            → crosses_line placed kind net c ≡ true
        go None e = absurd (false≢true (rw e at out))
        go (Some at) e =
            let outside : (standing_of (line grid kind c) (reach at)).outside ≡ true = rw e at out in
            crosses-by at e
            ∙ any-when (is_pin_inside placed kind c) (is_sink_across placed (line grid kind c)
            (standing_of (line grid kind c) (reach at)))
            (λ p is. across at p (terminal_in placed p) outside refl is) net.sinks any

    crosses-out : is_pin_inside placed kind c pin ≡ true
        → list_any (is_pin_outside placed kind c) net.sinks ≡ true
        → crosses_line placed kind net c ≡ true
    crosses-out within any = go (terminal_in placed pin) refl
      where
        across : (at : Terminal) (p : PinRef) (o : Option Terminal)
            → (standing_of (line grid kind c) (reach at)).inside ≡ true
            → terminal_in placed p ≡ o → is_pin_outside placed kind c p ≡ true
            → is_sink_across placed (line grid kind c) (standing_of (line grid kind c) (reach at)) p
            ≡ true
        across at p None inside e is = absurd (false≢true (rw e at is))
        across at p (Some sink) inside e is =
            let out : (standing_of (line grid kind c) (reach sink)).outside ≡ true = rw e at is in
            rw (e, inside, out)
            (across-out (standing_of (line grid kind c) (reach at)).outside
            (standing_of (line grid kind c) (reach sink)).inside)

        go : (o : Option Terminal) → terminal_in placed pin ≡ o
            → crosses_line placed kind net c ≡ true
        go None e = absurd (false≢true (rw e at within))
        go (Some at) e =
            let inside : (standing_of (line grid kind c) (reach at)).inside ≡ true = rw e at within in
            crosses-by at e
            ∙ any-when (is_pin_outside placed kind c) (is_sink_across placed (line grid kind c)
            (standing_of (line grid kind c) (reach at)))
            (λ p is. across at p (terminal_in placed p) inside refl is) net.sinks any

  -- the spans of a net that begin with no line
  pub crosses-between : (net : Net) (pin : PinRef) (none : Span) (spans : Spans)
      → net.global ≡ false → net.driver ≡ Some pin → line_count grid kind ≤ none.low
      → none.high ≡ 0 → Widens placed kind pin none spans.driver
      → WidensByAny placed kind net.sinks none spans.sinks → AreBetween placed kind net spans
  crosses-between net pin none spans ordinary drives low high driver sinks c there h =
      elim (either (nat_lt spans.sinks.low c && nat_lt (c + 1) spans.driver.high)
      (nat_lt spans.driver.low c && nat_lt (c + 1) spans.sinks.high) h) [
        | inl one ↦ first one
        | inr other ↦ second other
      ]
    where
      lt : (a b : ℕ) → nat_lt a b ≡ true → a < b
      lt a b e = grind (arith, nat_tests)

      first : (nat_lt spans.sinks.low c && nat_lt (c + 1) spans.driver.high) ≡ true
          → crosses_line placed kind net c ≡ true
      first e =
          let above = lt spans.sinks.low c (and-first (nat_lt spans.sinks.low c)
          (nat_lt (c + 1) spans.driver.high) e) in
          let below = lt (c + 1) spans.driver.high (and-second (nat_lt spans.sinks.low c)
          (nat_lt (c + 1) spans.driver.high) e) in
          elim (sinks.inside c there above) [
            | inl past ↦ absurd (omega (arith, past, low, there))
            | inr any ↦ elim (driver.outside c below) [
              | inl past ↦ absurd (omega (arith, past, high))
              | inr out ↦ crosses-in net pin ordinary drives c out any
            ]
          ]

      second : (nat_lt spans.driver.low c && nat_lt (c + 1) spans.sinks.high) ≡ true
          → crosses_line placed kind net c ≡ true
      second e =
          let above = lt spans.driver.low c (and-first (nat_lt spans.driver.low c)
          (nat_lt (c + 1) spans.sinks.high) e) in
          let below = lt (c + 1) spans.sinks.high (and-second (nat_lt spans.driver.low c)
          (nat_lt (c + 1) spans.sinks.high) e) in
          elim (driver.inside c there above) [
            | inl past ↦ absurd (omega (arith, past, low, there))
            | inr within ↦ elim (sinks.outside c below) [
              | inl past ↦ absurd (omega (arith, past, high))
              | inr any ↦ crosses-out net pin ordinary drives c within any
            ]
          ]

  -- spans of no line have none between them
  pub none-between : (net : Net) (spans : Spans) → spans.driver.high ≡ 0 → spans.sinks.high ≡ 0
      → AreBetween placed kind net spans
  none-between net spans driver sinks c there h =
      elim (either (nat_lt spans.sinks.low c && nat_lt (c + 1) spans.driver.high)
      (nat_lt spans.driver.low c && nat_lt (c + 1) spans.sinks.high) h) [
        | inl one ↦ absurd (never (nat_lt spans.sinks.low c) spans.driver.high driver one)
        | inr other ↦ absurd (never (nat_lt spans.driver.low c) spans.sinks.high sinks other)
      ]
    where
      lt : (a b : ℕ) → nat_lt a b ≡ true → a < b
      lt a b e = grind (arith, nat_tests)

      never : (b : Bool) (high : ℕ) → high ≡ 0 → (b && nat_lt (c + 1) high) ≡ true → ⊥
      never b high is e = let below = lt (c + 1) high (and-second b (nat_lt (c + 1) high) e) in
          omega (arith, below, is)
