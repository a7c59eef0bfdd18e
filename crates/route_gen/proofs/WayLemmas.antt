-- The cells of a net of a generated problem, each beside the next, and none twice.
use Rattle.std.proofs.Common.{rules, ◌≡◌, ◌≢◌, ◌⊎◌, ℕ, zero, suc, ◌+◌, ◌-◌, ◌<◌, ◌≤◌, Bool, true, false, Option, Some, None, [], ◌∷◌, ◌++◌, refl, sym, ap, subst, inl, inr, arith}
use Rattle.std.specs.Int.{abs_diff}
use Rattle.std.specs.Prelude.{is_none, nat_lt, not, ◌&&◌, option_and_then, slice_get, if◌then◌else◌}
use Rattle.std.specs.List.{AllByRecursion, last_or}
use Rattle.std.specs.Option.{option_map_or}
use Rattle.std.proofs.lemmas.Bool.{cases_eq, eq-eqb, le-ltb, ltb-false, ltb-true, ne_eqb}
use Rattle.fpga_types.specs.Fabric.{Meeting, MeetsAt}
use Rattle.fpga_types.specs.Fit.{are_apart, same_elem}
use Rattle.fpga_types.specs.Fits.{Device, are_off}
use Rattle.fpga_types.specs.Kinds.{is_channel, is_ipin, is_opin, is_sink, is_source, may_follow}
use Rattle.fpga_types.specs.Slots.{elem_cell}
use Rattle.fpga_types.specs.Terminals.{is_pin_at, named_terminal}
use Rattle.fpga_types.specs.Touching.{touches}
use Rattle.fpga_types.specs.declared.grid.Axis.TheVariants.{X, Y}
use Rattle.fpga_types.specs.declared.grid.Cell.{Cell}
use Rattle.fpga_types.specs.declared.grid.PinAt.TheVariants.{Pin as PinOf}
use Rattle.fpga_types.specs.declared.grid.Side.TheVariants.{Left, Right, Bottom, Top}
use Rattle.fpga_types.specs.declared.route.Elem.{Elem}
use Rattle.fpga_types.specs.declared.route.ElemKind.{ElemKind}
use Rattle.fpga_types.specs.declared.route.ElemKind.TheVariants.{Source, Opin, ChanX, ChanY, Ipin, Sink as SinkKind}
use Rattle.fpga_types.specs.declared.route.Label.TheVariants.{Class, Pin}
use Rattle.fpga_types.proofs.CellLemmas.{x-place, y-place}
use Rattle.fpga_types.proofs.MeetingLemmas.{meeting-found}
use Rattle.route_gen.specs.Laws.{architecture_of_all, bottom_pin}
use Rattle.route_gen.specs.Traces.{along_column, along_row, cells, channel, elem_at, to_row, towards, trace}
use Rattle.route_gen.specs.declared.draws.TheConstants.{INPUT_COUNT}
use Rattle.route_gen.specs.declared.location.Location.{Location}
use Rattle.route_gen.specs.declared.trace.TheConstants.{INPUT_CLASS, OUTPUT_CLASS, OUTPUT_PIN}
use Rattle.route_gen.proofs.TraceLemmas.{IsBetween, IsPlace, all_joined, all_made, square_of, towards-between}
use Rattle.list_laws.proofs.Places.{last-push}
use Rattle.route_gen.proofs.WalkLemmas.{Apart, Linked, apart-joined, apart-made, last-joined, last-made, linked-joined, linked-made}

-- what a line is tested against
abbrev pub device : (side : ℕ) → Device
device side = record { arch = architecture_of_all; grid = square_of side }

-- the element may stand behind what stands before it
pub record IsNext (side : ℕ) (before : Option Elem) (e : Elem) : Type 0 where
  pub order : option_map_or (λ (q : Elem). may_follow q.kind e.kind) before (is_source e.kind)
      ≡ true
  pub branch : option_map_or (λ (q : Elem). is_sink q.kind) before false ≡ false
  pub meets : are_apart (square_of side) (option_and_then elem_cell before) (elem_cell e) ≡ false
  pub opin : (option_map_or (λ (q : Elem). is_opin q.kind) before false
      && are_off (device side) before (Some e)) ≡ false
  pub ipin : (is_ipin e.kind && are_off (device side) (Some e) before) ≡ false
  pub stays : (is_sink e.kind && option_map_or (λ (q : Elem). is_ipin q.kind
      && not (is_pin_at architecture_of_all (named_terminal e) q)) before false) ≡ false

-- two sides are not one
left-right : Left ≡ Right → ⊥
left-right e = cc

bottom-top : Bottom ≡ Top → ⊥
bottom-top e = cc

left-top : Left ≡ Top → ⊥
left-top e = cc

left-bottom : Left ≡ Bottom → ⊥
left-bottom e = cc

-- the way from one number to another begins and ends there
towards-first : (from to : ℕ) → towards from to 0 ≡ from
towards-first from to = grind arith

towards-last : (from to : ℕ) → towards from to (0 + abs_diff from to) ≡ to
towards-last from to = grind (arith, ltb-true, ltb-false)

-- its steps are at different numbers
towards-apart : (from to j k : ℕ) → j < k → k < abs_diff from to + 1 →
    towards from to k ≢ towards from to j
towards-apart from to j k less within = grind (arith, ltb-true)

-- from one step to the next it is one more or one less
pub data IsStep (low high : ℕ) : Type 0 where
  Up : low + 1 ≡ high → IsStep low high
  Down : high + 1 ≡ low → IsStep low high

towards-step : (from to k : ℕ) → k < abs_diff from to →
    IsStep (towards from to k) (towards from to (k + 1))
towards-step from to k within = grind (arith, ltb-true)

module _ (side : ℕ) where
  -- a meeting is found
  meets-at : (a b : Cell) (m : Meeting) → MeetsAt (square_of side) a b m →
      are_apart (square_of side) (Some a) (Some b) ≡ false
  meets-at a b m at = ap is_none (meeting-found (square_of side) a b m at)

  abbrev row_cell : (x y : ℕ) → Cell
  row_cell x y = record { axis = X; x = x; y = y }

  abbrev column_cell : (x y : ℕ) → Cell
  column_cell x y = record { axis = Y; x = x; y = y }

  -- a cell behind one that it meets
  pub cell-next : (kind : ElemKind) (x y : ℕ) (after : ElemKind) (z w : ℕ) →
      is_channel kind ≡ true → is_channel after ≡ true →
      are_apart (square_of side) (elem_cell (channel kind x y)) (elem_cell (channel after z w))
      ≡ false →
      IsNext side (Some (channel kind x y)) (channel after z w)
  cell-next ChanX x y ChanX z w on off meets = grind arith
  cell-next ChanX x y ChanY z w on off meets = grind arith
  cell-next ChanY x y ChanX z w on off meets = grind arith
  cell-next ChanY x y ChanY z w on off meets = grind arith
  cell-next _ x y _ z w on off meets = cc

  -- the next cell of a row, and of a column
  row-step : (x z y : ℕ) → IsStep x z → IsBetween 1 side x → IsBetween 1 side z → y ≤ side →
      are_apart (square_of side) (Some (row_cell x y)) (Some (row_cell z y)) ≡ false
  row-step x z y (Up is) a b below =
      let xa = a.above in let xb = a.below in let za = b.above in let zb = b.below in
      meets-at (row_cell x y) (row_cell z y)
      (record { at = record { i = x; j = y }; from = Left; to = Right })
      (record {
        column = xb;
        row = below;
        sides = λ e. left-right e;
        first = (x-place (square_of side) x y xa xb below, refl);
        second = (x-place (square_of side) z y za zb below, λ i. row_cell (sym is i) y);
      })
  row-step x z y (Down is) a b below =
      let xa = a.above in let xb = a.below in let za = b.above in let zb = b.below in
      meets-at (row_cell x y) (row_cell z y)
      (record { at = record { i = z; j = y }; from = Right; to = Left })
      (record {
        column = zb;
        row = below;
        sides = λ e. left-right (sym e);
        first = (x-place (square_of side) x y xa xb below, λ i. row_cell (sym is i) y);
        second = (x-place (square_of side) z y za zb below, refl);
      })

  column-step : (x y z : ℕ) → IsStep y z → x ≤ side → IsBetween 1 side y → IsBetween 1 side z →
      are_apart (square_of side) (Some (column_cell x y)) (Some (column_cell x z)) ≡ false
  column-step x y z (Up is) below a b =
      let ya = a.above in let yb = a.below in let za = b.above in let zb = b.below in
      meets-at (column_cell x y) (column_cell x z)
      (record { at = record { i = x; j = y }; from = Bottom; to = Top })
      (record {
        column = below;
        row = yb;
        sides = λ e. bottom-top e;
        first = (y-place (square_of side) x y below ya yb, refl);
        second = (y-place (square_of side) x z below za zb, λ i. column_cell x (sym is i));
      })
  column-step x y z (Down is) below a b =
      let ya = a.above in let yb = a.below in let za = b.above in let zb = b.below in
      meets-at (column_cell x y) (column_cell x z)
      (record { at = record { i = x; j = z }; from = Top; to = Bottom })
      (record {
        column = below;
        row = zb;
        sides = λ e. bottom-top (sym e);
        first = (y-place (square_of side) x y below ya yb, λ i. column_cell x (sym is i));
        second = (y-place (square_of side) x z below za zb, refl);
      })

  -- a row's cell and the column's cell above it, and below it; and the other way round
  corner : (x r y : ℕ) → IsBetween 1 side x → r ≤ side → IsBetween 1 side y →
      (y ≡ r + 1) ⊎ (y ≡ r) →
      (are_apart (square_of side) (Some (row_cell x r)) (Some (column_cell x y)) ≡ false)
      × (are_apart (square_of side) (Some (column_cell x y)) (Some (row_cell x r)) ≡ false)
  corner x r y a below b (inl over) =
      let xa = a.above in let xb = a.below in let ya = b.above in let yb = b.below in
      let row = x-place (square_of side) x r xa xb below in
      let column = y-place (square_of side) x y xb ya yb in (
        meets-at (row_cell x r) (column_cell x y)
            (record { at = record { i = x; j = r }; from = Left; to = Top })
            (record {
              column = xb;
              row = below;
              sides = λ e. left-top e;
              first = (row, refl);
              second = (column, λ i. column_cell x (over i));
            }),
        meets-at (column_cell x y) (row_cell x r)
            (record { at = record { i = x; j = r }; from = Top; to = Left })
            (record {
              column = xb;
              row = below;
              sides = λ e. left-top (sym e);
              first = (column, λ i. column_cell x (over i));
              second = (row, refl);
            }),
      )
  corner x r y a below b (inr same) =
      let xa = a.above in let xb = a.below in let ya = b.above in let yb = b.below in
      let row = x-place (square_of side) x r xa xb below in
      let column = y-place (square_of side) x y xb ya yb in (
        meets-at (row_cell x r) (column_cell x y)
            (record { at = record { i = x; j = r }; from = Left; to = Bottom })
            (record {
              column = xb;
              row = below;
              sides = λ e. left-bottom e;
              first = (row, refl);
              second = (column, λ i. column_cell x (same i));
            }),
        meets-at (column_cell x y) (row_cell x r)
            (record { at = record { i = x; j = r }; from = Bottom; to = Left })
            (record {
              column = xb;
              row = below;
              sides = λ e. left-bottom (sym e);
              first = (column, λ i. column_cell x (same i));
              second = (row, refl);
            }),
      )

  -- the cells of a row
  row-linked : (o : Option Elem) (row from to : ℕ) → row ≤ side → IsBetween 1 side from →
      IsBetween 1 side to → IsNext side o (channel ChanX from row) →
      Linked (IsNext side) o (along_row row from to)
  row-linked o row from to below start end first =
      search (rules, linked-made, towards-first, cell-next, row-step, towards-step, towards-between)

  -- and of a column
  column-linked : (o : Option Elem) (column from to : ℕ) → column ≤ side → IsBetween 1 side from →
      IsBetween 1 side to → IsNext side o (channel ChanY column from) →
      Linked (IsNext side) o (along_column column from to)
  column-linked o column from to below start end first =
      search (
        rules,
        linked-made,
        towards-first,
        cell-next,
        column-step,
        towards-step,
        towards-between,
      )

  -- where they end
  row-last : (o : Option Elem) (row from to : ℕ) →
      last_or o (along_row row from to) ≡ Some (channel ChanX to row)
  row-last o row from to = grind (arith, last-made, towards-last)

  column-last : (o : Option Elem) (column from to : ℕ) →
      last_or o (along_column column from to) ≡ Some (channel ChanY column to)
  column-last o column from to = grind (arith, last-made, towards-last)

  -- the way in a column, behind the cell above the first row
  way-linked : (column from to : ℕ) → IsBetween 1 side column → from < side → to < side →
      Linked (IsNext side) (Some (channel ChanX column from)) (to_row column from to)
  way-linked column from to at start end = go (nat_lt from to) (nat_lt to from) refl refl
    where
      go : (up down : Bool) → nat_lt from to ≡ up → nat_lt to from ≡ down →
          Linked (IsNext side) (Some (channel ChanX column from))
          (if up then along_column column (from + 1) to ++ channel ChanX column to ∷ []
          else if down then along_column column from (to + 1) ++ channel ChanX column to ∷ []
          else [])
      go true down rises other =
          let above = ltb-true from to rises in
          let first : IsBetween 1 side (from + 1)
          = record { above = omega arith; below = omega arith } in
          let last : IsBetween 1 side to = record { above = omega arith; below = omega arith } in
          linked-joined (IsNext side) (Some (channel ChanX column from))
          (along_column column (from + 1) to) (channel ChanX column to ∷ [])
          (column-linked (Some (channel ChanX column from)) column (from + 1) to at.below first last
          (cell-next ChanX column from ChanY column (from + 1) refl refl
          (corner column from (from + 1) at (omega arith) first (inl refl)).0))
          (subst (λ (o : Option Elem). Linked (IsNext side) o (channel ChanX column to ∷ []))
          (sym (column-last (Some (channel ChanX column from)) column (from + 1) to)) (
            cell-next ChanY column to ChanX column to refl refl
                (corner column to to at (omega arith) last (inr refl)).1,
            tt,
          ))
      go false true other falls =
          let below = ltb-true to from falls in
          let first : IsBetween 1 side from = record { above = omega arith; below = omega arith } in
          let last : IsBetween 1 side (to + 1)
          = record { above = omega arith; below = omega arith } in
          linked-joined (IsNext side) (Some (channel ChanX column from))
          (along_column column from (to + 1)) (channel ChanX column to ∷ [])
          (column-linked (Some (channel ChanX column from)) column from (to + 1) at.below first last
          (cell-next ChanX column from ChanY column from refl refl
          (corner column from from at (omega arith) first (inr refl)).0))
          (subst (λ (o : Option Elem). Linked (IsNext side) o (channel ChanX column to ∷ []))
          (sym (column-last (Some (channel ChanX column from)) column from (to + 1))) (
            cell-next ChanY column (to + 1) ChanX column to refl refl
                (corner column to (to + 1) at (omega arith) last (inl refl)).1,
            tt,
          ))
      go false false other none = tt

  -- it ends above the last row
  way-last : (column from to : ℕ) → last_or (Some (channel ChanX column from))
      (to_row column from to) ≡ Some (channel ChanX column to)
  way-last column from to = grind (arith, last-push, ltb-false)

  -- all cells
  pub cells-linked : (o : Option Elem) (driver sink : Location) → IsPlace side driver →
      IsPlace side sink → IsNext side o (channel ChanX driver.column (driver.row - 1)) →
      Linked (IsNext side) o (cells driver sink)
  cells-linked o driver sink from to first =
      grind (arith, linked-joined, row-linked, Linked, row-last, way-linked)

  pub cells-last : (o : Option Elem) (driver sink : Location) →
      last_or o (cells driver sink) ≡ Some (channel ChanX sink.column (sink.row - 1))
  cells-last o driver sink = grind (arith, last-joined, row-last, way-last)

-- cells at two places are not equal
row-other : (x z r w : ℕ) → (x ≢ z) ⊎ (r ≢ w) →
    same_elem (channel ChanX x r) (channel ChanX z w) ≡ false
row-other x z r w (inl other) = grind (arith, ne_eqb)
row-other x z r w (inr other) = grind (arith, ne_eqb)

column-other : (x y w : ℕ) → y ≢ w → same_elem (channel ChanY x y) (channel ChanY x w) ≡ false
column-other x y w other = grind (arith, ne_eqb)

-- what holds of channel cells holds of all on the way
pub way-all : (P : Elem → Type 0) (column from to : ℕ) → P (channel ChanX column to) →
    ((x y : ℕ) → P (channel ChanY x y)) → AllByRecursion P (to_row column from to)
way-all P column from to last each = go (nat_lt from to) (nat_lt to from)
  where
    ys : (first : ℕ) → AllByRecursion P (along_column column first to)
    ys first = all_made P (λ k. channel ChanY column (towards first to k)) 0 (abs_diff first to + 1)
        (λ k below. each column (towards first to k))

    zs : AllByRecursion P (along_column column from (to + 1))
    zs = all_made P (λ k. channel ChanY column (towards from (to + 1) k)) 0
        (abs_diff from (to + 1) + 1) (λ k below. each column (towards from (to + 1) k))

    go : (up down : Bool) → AllByRecursion P
        (if up then along_column column (from + 1) to ++ channel ChanX column to ∷ []
        else if down then along_column column from (to + 1) ++ channel ChanX column to ∷ []
        else [])
    go true down = all_joined P (along_column column (from + 1) to) (channel ChanX column to ∷ [])
        (ys (from + 1)) (last, tt)
    go false true = all_joined P (along_column column from (to + 1)) (channel ChanX column to ∷ [])
        zs (last, tt)
    go false false = tt

pub cells-all : (P : Elem → Type 0) (driver sink : Location) → ((x y : ℕ) → P (channel ChanX x y)) →
    ((x y : ℕ) → P (channel ChanY x y)) → AllByRecursion P (cells driver sink)
cells-all P driver sink rows columns = search (rules, all_joined, all_made, way-all)

-- no cell of a row or of a column stands twice
row-apart : (row from to : ℕ) → Apart same_elem (along_row row from to)
row-apart row from to =
    apart-made same_elem (λ k. channel ChanX (towards from to k) row) 0 (abs_diff from to + 1)
    (λ j k less within. row-other (towards from to k) (towards from to j) row row
    (inl (towards-apart from to j k less (omega arith))))

column-apart : (column from to : ℕ) → Apart same_elem (along_column column from to)
column-apart column from to =
    apart-made same_elem (λ k. channel ChanY column (towards from to k)) 0 (abs_diff from to + 1)
    (λ j k less within. column-other column (towards from to k) (towards from to j)
    (towards-apart from to j k less (omega arith)))

way-apart : (column from to : ℕ) → Apart same_elem (to_row column from to)
way-apart column from to = go (nat_lt from to) (nat_lt to from)
  where
    joined : (first last : ℕ) →
        Apart same_elem (along_column column first last ++ channel ChanX column to ∷ [])
    joined first last =
        apart-joined same_elem (along_column column first last) (channel ChanX column to ∷ [])
        (column-apart column first last) (tt, tt)
        (all_made (λ x. AllByRecursion (λ y. same_elem y x ≡ false) (channel ChanX column to ∷ []))
        (λ k. channel ChanY column (towards first last k)) 0 (abs_diff first last + 1)
        (λ k below. (refl, tt)))

    go : (up down : Bool) → Apart same_elem
        (if up then along_column column (from + 1) to ++ channel ChanX column to ∷ []
        else if down then along_column column from (to + 1) ++ channel ChanX column to ∷ []
        else [])
    go true down = joined (from + 1) to
    go false true = joined from (to + 1)
    go false false = tt

pub cells-apart : (driver sink : Location) → 1 ≤ driver.row → 1 ≤ sink.row →
    Apart same_elem (cells driver sink)
cells-apart driver sink some here =
    apart-joined same_elem (along_row (driver.row - 1) driver.column sink.column)
    (to_row sink.column (driver.row - 1) (sink.row - 1))
    (row-apart (driver.row - 1) driver.column sink.column)
    (way-apart sink.column (driver.row - 1) (sink.row - 1))
    (all_made (λ x. AllByRecursion (λ y. same_elem y x ≡ false)
    (to_row sink.column (driver.row - 1) (sink.row - 1)))
    (λ k. channel ChanX (towards driver.column sink.column k) (driver.row - 1)) 0
    (abs_diff driver.column sink.column + 1)
    (λ k below. across (towards driver.column sink.column k)))
  where
    across : (x : ℕ) → AllByRecursion
        (λ y. same_elem y (channel ChanX x (driver.row - 1)) ≡ false)
        (to_row sink.column (driver.row - 1) (sink.row - 1))
    across x = elim (cases_eq (driver.row - 1) (sink.row - 1)) [
      | inl same ↦ subst (λ (r : ℕ). AllByRecursion
          (λ y. same_elem y (channel ChanX x (driver.row - 1)) ≡ false)
          (to_row sink.column (driver.row - 1) r)) same (none (driver.row - 1))
      | inr other ↦ way-all (λ y. same_elem y (channel ChanX x (driver.row - 1)) ≡ false)
          sink.column (driver.row - 1) (sink.row - 1)
          (row-other sink.column x (sink.row - 1) (driver.row - 1)
          (inr (λ e. other (sym e)))) (λ z w. refl)
    ]
      where
        none : (r : ℕ) → AllByRecursion
            (λ y. same_elem y (channel ChanX x (driver.row - 1)) ≡ false)
            (to_row sink.column r r)
        none r = subst (λ (b : Bool). AllByRecursion
            (λ y. same_elem y (channel ChanX x (driver.row - 1)) ≡ false)
            (if b then along_column sink.column (r + 1) r ++ channel ChanX sink.column r ∷ []
            else if b then along_column sink.column r (r + 1) ++ channel ChanX sink.column r ∷ []
            else [])) (sym (le-ltb r r (omega arith))) tt

-- a number is at its place
pub pin-there : (pin : ℕ) → pin < INPUT_COUNT →
    slice_get architecture_of_all.pins pin ≡ Some (bottom_pin INPUT_CLASS false)
pin-there zero below = refl
pin-there (suc zero) below = refl
pin-there (suc (suc zero)) below = refl
pin-there (suc (suc (suc zero))) below = refl
pin-there (suc (suc (suc (suc pin)))) below = absurd (omega arith)

-- a pin at the bottom touches the cell below
touches-below : (side : ℕ) (at : Location) (pin class : ℕ) (output : Bool) → IsPlace side at →
    slice_get architecture_of_all.pins pin ≡ Some (bottom_pin class output) →
    touches architecture_of_all (square_of side) (PinOf at.column at.row pin)
    (record { axis = X; x = at.column; y = at.row - 1 }) ≡ true
touches-below side at pin class output place there = grind (arith, x-place, square_of, eq-eqb)

-- the elements of a net
module _ (side : ℕ) (driver sink : Location) (pin : ℕ) (from : IsPlace side driver)
    (to : IsPlace side sink) (input : pin < INPUT_COUNT) where
  abbrev source_elem : Elem
  source_elem = elem_at Source driver Class OUTPUT_CLASS

  abbrev opin_elem : Elem
  opin_elem = elem_at Opin driver Pin OUTPUT_PIN

  abbrev ipin_elem : Elem
  ipin_elem = elem_at Ipin sink Pin pin

  abbrev sink_elem : Elem
  sink_elem = elem_at SinkKind sink Class INPUT_CLASS

  opin-next : IsNext side (Some opin_elem) (channel ChanX driver.column (driver.row - 1))
  opin-next = grind (arith, touches-below)

  ipin-next : IsNext side (Some (channel ChanX sink.column (sink.row - 1))) ipin_elem
  ipin-next = grind (arith, touches-below, pin-there)

  sink-next : IsNext side (Some ipin_elem) sink_elem
  sink-next = grind (arith, eq-eqb, pin-there)

  pub trace-linked : Linked (IsNext side) None (trace driver sink pin)
  trace-linked =
      grind (
        arith,
        linked-joined,
        cells-linked,
        opin-next,
        Linked,
        cells-last,
        ipin-next,
        sink-next,
      )

  pub trace-apart : Apart same_elem (trace driver sink pin)
  trace-apart = (
    (
      refl,
      all_joined (λ y. same_elem y source_elem ≡ false) (cells driver sink)
          (ipin_elem ∷ sink_elem ∷ [])
          (cells-all (λ y. same_elem y source_elem ≡ false) driver sink (λ x y. refl)
          (λ x y. refl)) (refl, (refl, tt)),
    ),
    (
      all_joined (λ y. same_elem y opin_elem ≡ false) (cells driver sink)
          (ipin_elem ∷ sink_elem ∷ [])
          (cells-all (λ y. same_elem y opin_elem ≡ false) driver sink (λ x y. refl)
          (λ x y. refl)) (refl, (refl, tt)),
      apart-joined same_elem (cells driver sink) (ipin_elem ∷ sink_elem ∷ [])
          (cells-apart driver sink from.row_above to.row_above) ((refl, tt), (tt, tt))
          (cells-all (λ x. AllByRecursion (λ y. same_elem y x ≡ false)
          (ipin_elem ∷ sink_elem ∷ [])) driver sink (λ x y. (refl, (refl, tt)))
          (λ x y. (refl, (refl, tt)))),
    ),
  )
