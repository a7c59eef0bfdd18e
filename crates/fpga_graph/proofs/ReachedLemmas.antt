-- The wires that a pin opens lie in the cells along the sides of its place, in the order of these
-- cells, each once.
use Rattle.std.proofs.Common.{◌≡◌, ◌⊎◌, ℕ, ◌+◌, ◌*◌, ◌/◌, ◌<◌, ◌≤◌, Bool, true, cond, Option, Some, None, List, [], ◌++◌, refl, sym, ap, ◌∙◌, subst, inl, inr, append_assoc, arith}
use Rattle.std.specs.Prelude.{◌==◌, flat_map, map, slice_get}
use Rattle.std.specs.List.{range_with_len}
use Rattle.std.specs.Option.{option_map_or}
use Rattle.std.proofs.Math.Nat.{mod-lt}
use Rattle.std.proofs.lemmas.Bool.{false_from_ne_true, false≢true}
use Rattle.std.proofs.lemmas.Bool.Decides.{Decides-eqb}
use Rattle.std.proofs.lemmas.Grind.{flat_map-append}
use Rattle.list_laws.proofs.Members.{In, In-append_left, In-append_right, In-contains, In-filter, In-flat_map, In-map, In-range, contains-In, from_In-filter, from_In-flat_map, from_In-map}
use Rattle.list_laws.proofs.Rows.{rows-alike, rows-map, rows-rows}
use Rattle.fpga_types.specs.Boxes.{Opens, box_count, open_count, opens, pin_number, share_of}
use Rattle.fpga_types.specs.CellNumbers.{all_cells}
use Rattle.fpga_types.specs.Fabric.{is_cell, is_channel_place}
use Rattle.fpga_types.specs.Size.{Size}
use Rattle.fpga_types.specs.Touching.{is_beside, lies_along, touches}
use Rattle.fpga_types.specs.declared.arch.PinSpec.{PinSpec}
use Rattle.fpga_types.specs.declared.grid.Axis.{Axis}
use Rattle.fpga_types.specs.declared.grid.Axis.TheVariants.{X, Y}
use Rattle.fpga_types.specs.declared.grid.Cell.{Cell}
use Rattle.fpga_types.specs.declared.grid.PinAt.{PinAt}
use Rattle.fpga_types.specs.declared.grid.PinAt.TheVariants.{Pad as PadAt, Pin as PinOf}
use Rattle.fpga_types.specs.declared.grid.Side.{Side}
use Rattle.fpga_types.specs.declared.grid.Side.TheVariants.{Left, Right, Bottom, Top}
use Rattle.fpga_types.specs.declared.grid.Wire.{Wire}
use Rattle.fpga_types.proofs.BoxLemmas.{opens-is, touches-is}
use Rattle.fpga_types.proofs.CellLemmas.{low-x, low-y}
use Rattle.fpga_types.proofs.MeetingLemmas.{both_true}
use Rattle.fpga_graph.specs.Beside.{cell_along, cell_beside, opened_along, opened_in}
use Rattle.fpga_graph.specs.Cells.{column_cell, row_cell}
use Rattle.fpga_graph.specs.GraphOf.{GraphOf}
use Rattle.fpga_graph.specs.Wires.{AreReached, Reaches, opened_tracks, opened_wires, touched_cells, wire_in}
use Rattle.fpga_graph.proofs.Apart.{IsApart, all_pairs-apart, apart-append, apart-filter, apart-map, apart-range, apart-rows}
use Rattle.fpga_graph.proofs.Ranges.{inside, rows-beside, rows-filter, rows-none, rows-one}

-- the pin's place
abbrev x_of : PinAt → ℕ
x_of (PadAt x y sub) = x
x_of (PinOf x y pin) = x

abbrev y_of : PinAt → ℕ
y_of (PadAt x y sub) = y
y_of (PinOf x y pin) = y

-- the cells of the array by rows: those along a row above row y, and those between two columns
-- beside row y
abbrev row_of : Size → ℕ → List Cell
row_of grid y = map (λ x. row_cell x y) (range_with_len 1 grid.nx)

abbrev row_numbers : Size → List ℕ
row_numbers grid = range_with_len 0 (grid.ny + 1)

abbrev columns_of : Size → ℕ → List Cell
columns_of grid y = map (λ x. column_cell x y) (range_with_len 0 (grid.nx + 1))

abbrev column_row_numbers : Size → List ℕ
column_row_numbers grid = range_with_len 1 grid.ny

beside-along : (pin : PinAt) (cell : Cell) (side : Side) →
    is_beside pin cell side ≡ lies_along (x_of pin) (y_of pin) cell side
beside-along (PadAt x y sub) cell side = refl
beside-along (PinOf x y pin) cell side = refl

equal : (a b : ℕ) → (a == b) ≡ true → a ≡ b
equal a b h = (Decides-eqb a b).0 h

module _ (g : GraphOf) (pin : PinAt) where
  abbrev touched : Cell → Bool
  touched = touches g.arch g.grid pin

  -- a cell of a row that the pin touches is above or below its place
  touched-row : (x y : ℕ) → touched (row_cell x y) ≡ true →
      (x ≡ x_of pin) × ((y ≡ y_of pin) ⊎ (y + 1 ≡ y_of pin))
  touched-row x y h =
      let t = (touches-is g.arch g.grid pin (row_cell x y)).0 h in
      go t.side (sym (beside-along pin (row_cell x y) t.side) ∙ t.along)
    where
      go : (side : Side) → lies_along (x_of pin) (y_of pin) (row_cell x y) side ≡ true →
          (x ≡ x_of pin) × ((y ≡ y_of pin) ⊎ (y + 1 ≡ y_of pin))
      go Left e = absurd (false≢true e)
      go Right e = absurd (false≢true e)
      go Bottom e = let b = both_true (x == x_of pin) (y + 1 == y_of pin) e in
          (equal x (x_of pin) b.0, inr (equal (y + 1) (y_of pin) b.1))
      go Top e = let b = both_true (x == x_of pin) (y == y_of pin) e in
          (equal x (x_of pin) b.0, inl (equal y (y_of pin) b.1))

  -- and one of a column on its left or right
  touched-column : (x y : ℕ) → touched (column_cell x y) ≡ true →
      (y ≡ y_of pin) × ((x ≡ x_of pin) ⊎ (x + 1 ≡ x_of pin))
  touched-column x y h =
      let t = (touches-is g.arch g.grid pin (column_cell x y)).0 h in
      go t.side (sym (beside-along pin (column_cell x y) t.side) ∙ t.along)
    where
      go : (side : Side) → lies_along (x_of pin) (y_of pin) (column_cell x y) side ≡ true →
          (y ≡ y_of pin) × ((x ≡ x_of pin) ⊎ (x + 1 ≡ x_of pin))
      go Bottom e = absurd (false≢true e)
      go Top e = absurd (false≢true e)
      go Left e = let b = both_true (x + 1 == x_of pin) (y == y_of pin) e in
          (equal y (y_of pin) b.1, inr (equal (x + 1) (x_of pin) b.0))
      go Right e = let b = both_true (x == x_of pin) (y == y_of pin) e in
          (equal y (y_of pin) b.1, inl (equal x (x_of pin) b.0))

  touched-there : (cell : Cell) → touched cell ≡ true → is_cell g.grid cell ≡ true
  touched-there cell h = ((touches-is g.arch g.grid pin cell).0 h).is_there

  -- nothing is opened in a cell that the pin does not touch
  unopened : (cell : Cell) → (touched cell ≡ true → ⊥) → opened_in g pin cell ≡ []
  unopened cell apart =
      ap (λ (b : Bool). cond b (map (wire_in cell) (opened_tracks g pin)) [])
      (false_from_ne_true (touched cell) apart)

  -- along a row the pin opens wires in the cell of its own column alone
  row_only : (y : ℕ) → flat_map (λ x. opened_in g pin (row_cell x y)) (range_with_len 1 g.grid.nx)
      ≡ opened_in g pin (row_cell (x_of pin) y)
  row_only y = rows-one (λ x. opened_in g pin (row_cell x y)) 1 g.grid.nx (x_of pin)
      (λ x low d. unopened (row_cell x y) (λ t. d (touched-row x y t).0))
      (λ o. unopened (row_cell (x_of pin) y) (λ t.
      let place = low-x g.grid (x_of pin) y (touched-there (row_cell (x_of pin) y) t) in
      inside 1 g.grid.nx (x_of pin) place.0 (omega (arith, place.1)) o))

  abbrev in_own_column : ℕ → List Wire
  in_own_column y = opened_in g pin (row_cell (x_of pin) y)

  beyond_rows : (y : ℕ) → (y < 0) ⊎ (0 + (g.grid.ny + 1) ≤ y) → in_own_column y ≡ []
  beyond_rows y o = unopened (row_cell (x_of pin) y) (λ t.
      let place = low-x g.grid (x_of pin) y (touched-there (row_cell (x_of pin) y) t) in
      inside 0 (g.grid.ny + 1) y (omega arith) (omega (arith, place.2)) o)

  -- below and above the place
  above_and_below : flat_map in_own_column (range_with_len 0 (g.grid.ny + 1))
      ≡ option_map_or (opened_in g pin) (cell_along (x_of pin) (y_of pin) Bottom) []
      ++ in_own_column (y_of pin)
  above_and_below =
      rows-beside (opened_in g pin) (row_cell (x_of pin)) (g.grid.ny + 1) (y_of pin)
      (λ y same under. unopened (row_cell (x_of pin) y) (λ t.
      elim (touched-row (x_of pin) y t).1 [
        | inl here ↦ same here
        | inr below ↦ under below
      ]))
      beyond_rows

  -- along a column the pin opens wires in the cells on the left and the right of its place
  abbrev in_own_row : ℕ → List Wire
  in_own_row x = opened_in g pin (column_cell x (y_of pin))

  beyond_columns : (x : ℕ) → (x < 0) ⊎ (0 + (g.grid.nx + 1) ≤ x) → in_own_row x ≡ []
  beyond_columns x o = unopened (column_cell x (y_of pin)) (λ t.
      let place = low-y g.grid x (y_of pin) (touched-there (column_cell x (y_of pin)) t) in
      inside 0 (g.grid.nx + 1) x (omega arith) (omega (arith, place.0)) o)

  left_and_right : flat_map in_own_row (range_with_len 0 (g.grid.nx + 1))
      ≡ option_map_or (opened_in g pin) (cell_along (x_of pin) (y_of pin) Left) []
      ++ in_own_row (x_of pin)
  left_and_right =
      rows-beside (opened_in g pin) (λ x. column_cell x (y_of pin)) (g.grid.nx + 1) (x_of pin)
      (λ x same under. unopened (column_cell x (y_of pin)) (λ t.
      elim (touched-column x (y_of pin) t).1 [
        | inl here ↦ same here
        | inr left ↦ under left
      ]))
      beyond_columns

  -- of the columns' cells those of the pin's own row
  column_only : flat_map
      (λ y. flat_map (λ x. opened_in g pin (column_cell x y)) (range_with_len 0 (g.grid.nx + 1)))
      (range_with_len 1 g.grid.ny)
      ≡ flat_map in_own_row (range_with_len 0 (g.grid.nx + 1))
  column_only = rows-one
      (λ y. flat_map (λ x. opened_in g pin (column_cell x y)) (range_with_len 0 (g.grid.nx + 1)))
      1 g.grid.ny (y_of pin)
      (λ y low d. rows-none (λ x. opened_in g pin (column_cell x y))
      (range_with_len 0 (g.grid.nx + 1))
      (λ x i. unopened (column_cell x y) (λ t. d (touched-column x y t).0)))
      (λ o. rows-none in_own_row (range_with_len 0 (g.grid.nx + 1))
      (λ x i. unopened (column_cell x (y_of pin)) (λ t.
      let place = low-y g.grid x (y_of pin) (touched-there (column_cell x (y_of pin)) t) in
      inside 1 g.grid.ny (y_of pin) place.1 (omega (arith, place.2)) o)))

  along : (side : Side) → option_map_or (opened_in g pin) (cell_along (x_of pin) (y_of pin) side) []
      ≡ opened_along g pin side
  along side = go pin
    where
      go : (p : PinAt) → option_map_or (opened_in g pin) (cell_along (x_of p) (y_of p) side) []
          ≡ option_map_or (opened_in g pin) (cell_beside p side) []
      go (PadAt x y sub) = refl
      go (PinOf x y number) = refl

  abbrev by_side : Side → List Wire
  by_side side = option_map_or (opened_in g pin) (cell_along (x_of pin) (y_of pin) side) []

  -- the wires by the sides of the pin's place
  opened-by_side : opened_wires g pin
      ≡ (by_side Bottom ++ by_side Top) ++ (by_side Left ++ by_side Right)
  opened-by_side =
      let opened = opened_in g pin in
      let rows = row_numbers g.grid in
      let columns_rows = column_row_numbers g.grid in
      let row_cells = rows-rows opened (row_of g.grid) rows
      ∙ rows-alike (λ y. flat_map opened (row_of g.grid y)) in_own_column rows
      (λ y i. rows-map opened (λ x. row_cell x y) (range_with_len 1 g.grid.nx) ∙ row_only y)
      ∙ above_and_below in
      let column_cells = rows-rows opened (columns_of g.grid) columns_rows
      ∙ rows-alike (λ y. flat_map opened (columns_of g.grid y))
      (λ y. flat_map (λ x. opened (column_cell x y)) (range_with_len 0 (g.grid.nx + 1)))
      columns_rows
      (λ y i. rows-map opened (λ x. column_cell x y) (range_with_len 0 (g.grid.nx + 1)))
      ∙ column_only ∙ left_and_right in
      rows-filter touched (λ cell. map (wire_in cell) (opened_tracks g pin)) (all_cells g.grid)
      ∙ flat_map-append opened (flat_map (row_of g.grid) rows)
      (flat_map (columns_of g.grid) columns_rows)
      ∙ (λ k. row_cells k ++ column_cells k)

  -- what is added side by side
  pub opened-sides : ((opened_along g pin Bottom ++ opened_along g pin Top)
      ++ opened_along g pin Left) ++ opened_along g pin Right ≡ opened_wires g pin
  opened-sides =
      let bottom = along Bottom in let top = along Top in
      let left = along Left in let right = along Right in
      (λ k. ((sym bottom k ++ sym top k) ++ sym left k) ++ sym right k)
      ∙ append_assoc (by_side Bottom ++ by_side Top) (by_side Left) (by_side Right)
      ∙ sym opened-by_side

  -- a box has no more switches than the channel has tracks, so an opened track is below the width
  few_switches : open_count g.arch g.width pin ≤ g.width
  few_switches = go pin
    where
      few : (value : ℕ) → box_count g.arch.fc.fractional g.width value ≤ g.width
      few value = omega arith

      has : (o : Option PinSpec) → option_map_or
          (λ (spec : PinSpec). box_count g.arch.fc.fractional g.width (share_of g.arch.fc spec)) o 0
          ≤ g.width
      has None = omega arith
      has (Some spec) = few (share_of g.arch.fc spec)

      go : (p : PinAt) → open_count g.arch g.width p ≤ g.width
      go (PadAt x y sub) = few g.arch.fc.pad
      go (PinOf x y number) = has (slice_get g.arch.pins number)

  opens-within : (track : ℕ) → Opens g.arch g.width pin track → track < g.width
  opens-within track o =
      let some : 0 < g.width = omega (arith, few_switches, o.1) in
      subst (λ (t : ℕ). t < g.width) o.2
      (mod-lt (o.0 * g.width / open_count g.arch g.width pin + pin_number pin) some)

-- each cell of the array stands in the list of all
in-cells : (grid : Size) (axis : Axis) (x y : ℕ) → is_channel_place grid axis x y ≡ true →
    In (all_cells grid) (record { axis = axis; x = x; y = y })
in-cells grid X x y h =
    let place = low-x grid x y h in
    let in_row = In-map (λ u. row_cell u y) (range_with_len 1 grid.nx) x
    (In-range 1 grid.nx x place.0 (omega (arith, place.1))) in
    let in_rows = In-flat_map (row_of grid) (row_numbers grid) y (row_cell x y)
    (In-range 0 (grid.ny + 1) y (omega arith) (omega (arith, place.2))) in_row in
    In-append_left (flat_map (row_of grid) (row_numbers grid))
    (flat_map (columns_of grid) (column_row_numbers grid)) (row_cell x y) in_rows
in-cells grid Y x y h =
    let place = low-y grid x y h in
    let in_row = In-map (λ u. column_cell u y) (range_with_len 0 (grid.nx + 1)) x
    (In-range 0 (grid.nx + 1) x (omega arith) (omega (arith, place.0))) in
    let in_rows = In-flat_map (columns_of grid) (column_row_numbers grid) y (column_cell x y)
    (In-range 1 grid.ny y place.1 (omega (arith, place.2))) in_row in
    In-append_right (flat_map (row_of grid) (row_numbers grid))
    (flat_map (columns_of grid) (column_row_numbers grid)) (column_cell x y) in_rows

-- no cell stands there twice
apart-cells : (grid : Size) → IsApart (all_cells grid)
apart-cells grid =
    let rows = apart-rows (λ (c : Cell). c.y) (row_of grid) (row_numbers grid)
    (λ y c i. let made = from_In-map (λ x. row_cell x y) (range_with_len 1 grid.nx) c i in
    ap (λ (d : Cell). d.y) (sym made.2))
    (λ y. apart-map (λ (c : Cell). c.x) (λ x. row_cell x y) (range_with_len 1 grid.nx) (λ x. refl)
    (apart-range 1 grid.nx))
    (apart-range 0 (grid.ny + 1)) in
    let columns = apart-rows (λ (c : Cell). c.y) (columns_of grid) (column_row_numbers grid)
    (λ y c i. let made =
    from_In-map (λ x. column_cell x y) (range_with_len 0 (grid.nx + 1)) c i in
    ap (λ (d : Cell). d.y) (sym made.2))
    (λ y. apart-map (λ (c : Cell). c.x) (λ x. column_cell x y) (range_with_len 0 (grid.nx + 1))
    (λ x. refl) (apart-range 0 (grid.nx + 1)))
    (apart-range 1 grid.ny) in
    apart-append (flat_map (row_of grid) (row_numbers grid))
    (flat_map (columns_of grid) (column_row_numbers grid)) rows columns
    (λ a b i j same.
    let row = from_In-flat_map (row_of grid) (row_numbers grid) a i in
    let first = from_In-map (λ x. row_cell x row.0) (range_with_len 1 grid.nx) a row.2 in
    let column = from_In-flat_map (columns_of grid) (column_row_numbers grid) b j in
    let second = from_In-map (λ x. column_cell x column.0) (range_with_len 0 (grid.nx + 1)) b
    column.2 in
    let k : X ≡ Y = ap (λ (c : Cell). c.axis) (first.2 ∙ same ∙ sym second.2) in cc)

module _ (g : GraphOf) (pin : PinAt) where
  -- the wires of a cell whose tracks the pin opens
  abbrev in_cell : Cell → List Wire
  in_cell cell = map (wire_in cell) (opened_tracks g pin)

  is-reached : (v : Wire) → In (opened_wires g pin) v → Reaches g pin v
  is-reached v i =
      let cell = from_In-flat_map in_cell (touched_cells g pin) v i in
      let touched = from_In-filter (touches g.arch g.grid pin) (all_cells g.grid) cell.0 cell.1 in
      let track = from_In-map (wire_in cell.0) (opened_tracks g pin) v cell.2 in
      let opened = from_In-filter (opens g.arch g.width pin) (range_with_len 0 g.width) track.0
      track.1 in
      subst (λ (w : Wire). Reaches g pin w) track.2 (record {
        touches = (touches-is g.arch g.grid pin cell.0).0 touched.1;
        opens = (opens-is g.arch g.width pin track.0).0 opened.1;
      })

  in-opened : (v : Wire) → Reaches g pin v → In (opened_wires g pin) v
  in-opened v reaches =
      let low = opens-within g pin v.track reaches.opens in
      let touched = In-filter (touches g.arch g.grid pin) (all_cells g.grid) v.cell
      (in-cells g.grid v.cell.axis v.cell.x v.cell.y reaches.touches.is_there)
      ((touches-is g.arch g.grid pin v.cell).1 reaches.touches) in
      let opened = In-filter (opens g.arch g.width pin) (range_with_len 0 g.width) v.track
      (In-range 0 g.width v.track (omega arith) (omega (arith, low)))
      ((opens-is g.arch g.width pin v.track).1 reaches.opens) in
      In-flat_map in_cell (touched_cells g pin) v.cell v touched
      (In-map (wire_in v.cell) (opened_tracks g pin) v.track opened)

  apart-opened : IsApart (opened_wires g pin)
  apart-opened =
      let tracks = apart-filter (opens g.arch g.width pin) (range_with_len 0 g.width)
      (apart-range 0 g.width) in
      let cells = apart-filter (touches g.arch g.grid pin) (all_cells g.grid)
      (apart-cells g.grid) in
      apart-rows (λ (w : Wire). w.cell) in_cell (touched_cells g pin)
      (λ cell w i. let made = from_In-map (wire_in cell) (opened_tracks g pin) w i in
      ap (λ (u : Wire). u.cell) (sym made.2))
      (λ cell. apart-map (λ (w : Wire). w.track) (wire_in cell) (opened_tracks g pin) (λ t. refl)
      tracks)
      cells

  -- each wire that the pin reaches, once, and no other
  pub are-reached : AreReached g pin (opened_wires g pin)
  are-reached = record {
    each = λ v. (
      (λ has. is-reached v (In-contains (opened_wires g pin) v has)),
      (λ reaches. contains-In (opened_wires g pin) v (in-opened v reaches)),
    );
    once = all_pairs-apart (opened_wires g pin) apart-opened;
  }
