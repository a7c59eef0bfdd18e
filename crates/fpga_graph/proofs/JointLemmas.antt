-- The wires that a wire is joined to lie in the cells round its own, in their order, each once.
use Rattle.std.proofs.Common.{◌≡◌, ◌≢◌, ◌⊎◌, ℕ, ◌+◌, ◌-◌, ◌≤◌, Bool, true, false, cond, Option, Some, None, List, [], ◌∷◌, ◌++◌, refl, sym, ap, ◌∙◌, subst, inl, inr, arith}
use Rattle.std.specs.Prelude.{◌&&◌, filter, filter_map, find, flat_map, map, option_map}
use Rattle.std.specs.List.{range_with_len}
use Rattle.std.specs.Option.{option_to_list}
use Rattle.std.proofs.lemmas.Bool.{false_from_ne_true}
use Rattle.std.proofs.lemmas.Grind.{flat_map-append}
use Rattle.std.proofs.lemmas.List.{append-nil}
use Rattle.std.proofs.lemmas.List.Concat.{flat_map_single}
use Rattle.list_laws.proofs.Members.{In, In-contains, In-filter_map, contains-In, from_In-filter_map}
use Rattle.list_laws.proofs.Places.{none_is_not_some, some_is}
use Rattle.list_laws.proofs.Rows.{rows-alike, rows-map, rows-rows}
use Rattle.fpga_types.specs.Fabric.{Meeting, all_meetings, cell_on, is_cell, is_channel_place, is_meeting_of, meeting, other_sides, same_cell, switch_blocks}
use Rattle.fpga_types.specs.Size.{Size}
use Rattle.fpga_types.specs.Touching.{all_sides}
use Rattle.fpga_types.specs.Tracks.{AreJoined, TrackMap, mapped_track, track_across}
use Rattle.fpga_types.specs.declared.grid.Axis.{Axis}
use Rattle.fpga_types.specs.declared.grid.Axis.TheVariants.{X, Y}
use Rattle.fpga_types.specs.declared.grid.Cell.{Cell}
use Rattle.fpga_types.specs.declared.grid.Side.{Side}
use Rattle.fpga_types.specs.declared.grid.Side.TheVariants.{Left, Right, Bottom, Top}
use Rattle.fpga_types.specs.declared.grid.SwitchAt.{SwitchAt}
use Rattle.fpga_types.specs.declared.grid.Wire.{Wire}
use Rattle.fpga_types.proofs.CellLemmas.{low-x, low-y}
use Rattle.fpga_types.proofs.MeetingLemmas.{across-joined, joined-across, meeting-found, same_cell-is, same_cell-itself}
use Rattle.fpga_fabric.proofs.EndLemmas.{lower, upper}
use Rattle.fpga_fabric.specs.Ends.{lower_end, lower_side, upper_end, upper_side}
use Rattle.fpga_graph.specs.Around.{cells_across, cells_around, joint_in}
use Rattle.fpga_graph.specs.Cells.{column_cell, row_cell}
use Rattle.fpga_graph.specs.GraphOf.{GraphOf}
use Rattle.fpga_graph.specs.Wires.{AreJoints, is_meeting_from, joined_wires, wire_across, wire_in}
use Rattle.fpga_graph.proofs.Apart.{IsApart, all_pairs-apart, apart-option, apart-rows, none-of}
use Rattle.fpga_graph.proofs.Ranges.{inside, rows-filter, rows-none, rows-one, rows-some, rows-two}

abbrev block_at : ℕ → ℕ → SwitchAt
block_at i j = record { i = i; j = j }

abbrev meeting_at : SwitchAt → Side → Side → Meeting
meeting_at at from to = record { at = at; from = from; to = to }

shut : {A : Type 0} (b c : Bool) (xs : List A) → b ≡ false → cond (b && c) xs [] ≡ []
shut false c xs h = refl
shut true c xs h = cc

ajar : {A : Type 0} (b c : Bool) (xs : List A) → b ≡ true → cond (b && c) xs [] ≡ cond c xs []
ajar true c xs h = refl
ajar false c xs h = cc

unmet : (a b : Bool) (o : Option Meeting) → b ≡ false → cond (a && b) o None ≡ None
unmet true false o h = refl
unmet false false o h = refl
unmet true true o h = cc
unmet false true o h = cc

-- three rows that are alike
three-rows : {A : Type 0} {a b c u v w : List A} → a ≡ u → b ≡ v → c ≡ w
    → a ++ (b ++ (c ++ [])) ≡ u ++ (v ++ (w ++ []))
three-rows p q r = λ i. p i ++ (q i ++ (r i ++ []))

module _ (g : GraphOf) (w : Wire) where
  abbrev table : TrackMap
  table = mapped_track g.arch.pattern g.width

  -- what a switch block with two sides makes
  abbrev made : Meeting → List Wire
  made m = cond (is_meeting_from g.grid w.cell m) (wire_across table w.track m ∷ []) []

  -- what is made with one side, and by a whole switch block
  abbrev made_from : SwitchAt → Side → List Wire
  made_from at from = flat_map made (map (meeting_at at from) (other_sides from))

  abbrev made_at : ℕ → ℕ → List Wire
  made_at i j = flat_map (made_from (block_at i j)) all_sides

  -- what is made of a cell round the wire's own
  abbrev made_in : Cell → List Wire
  made_in cell = option_to_list (joint_in g w cell)

  -- the wires by columns and rows of switch blocks
  by_blocks : joined_wires g w ≡ flat_map
      (λ i. flat_map (made_at i) (range_with_len 0 (g.grid.ny + 1)))
      (range_with_len 0 (g.grid.nx + 1))
  by_blocks =
      let test = is_meeting_from g.grid w.cell in
      let across = wire_across table w.track in
      let columns = range_with_len 0 (g.grid.nx + 1) in
      let rows = range_with_len 0 (g.grid.ny + 1) in
      let meetings_from = λ (at : SwitchAt) (from : Side). map (meeting_at at from)
      (other_sides from) in
      let meetings_at = λ (at : SwitchAt). flat_map (meetings_from at) all_sides in
      let block = λ (at : SwitchAt). flat_map (made_from at) all_sides in
      sym (flat_map_single across (filter test (all_meetings g.grid)))
      ∙ rows-filter test (λ m. across m ∷ []) (all_meetings g.grid)
      ∙ rows-rows made meetings_at (switch_blocks g.grid)
      ∙ rows-alike (λ at. flat_map made (meetings_at at)) block (switch_blocks g.grid)
      (λ at i. rows-rows made (meetings_from at) all_sides)
      ∙ rows-rows block (λ i. map (block_at i) rows) columns
      ∙ rows-alike (λ i. flat_map block (map (block_at i) rows))
      (λ i. flat_map (made_at i) rows) columns (λ i h. rows-map block (block_at i) rows)

  -- nothing is made with a side that has another cell
  nothing_from : (at : SwitchAt) (from : Side) → (w.cell ≡ cell_on from at → ⊥) →
      made_from at from ≡ []
  nothing_from at from apart =
      let other = false_from_ne_true (same_cell w.cell (cell_on from at))
      (λ e. apart (same_cell-is w.cell (cell_on from at) e)) in
      rows-map made (meeting_at at from) (other_sides from)
      ∙ rows-none (λ to. made (meeting_at at from to)) (other_sides from)
      (λ to i. shut (same_cell w.cell (cell_on from at)) (is_cell g.grid (cell_on to at))
      (wire_across table w.track (meeting_at at from to) ∷ []) other)

  module _ (there : is_cell g.grid w.cell ≡ true) (at : SwitchAt) (column : at.i ≤ g.grid.nx)
      (row : at.j ≤ g.grid.ny) where
    -- the wire of the cell on a side, where it meets the wire's own
    abbrev given_at : Side → Option Meeting → List Wire
    given_at to o = option_to_list (option_map (wire_in (cell_on to at))
        (option_map (λ m. table m.from m.to w.track) o))

    -- with the side of the wire's cell each other side makes what its cell does
    alike : (from to : Side) → w.cell ≡ cell_on from at → from ≢ to →
        made (meeting_at at from to) ≡ made_in (cell_on to at)
    alike from to e d =
        ajar (same_cell w.cell (cell_on from at)) (is_cell g.grid (cell_on to at))
        (wire_across table w.track (meeting_at at from to) ∷ [])
        (subst (λ (c : Cell). same_cell w.cell c ≡ true) e (same_cell-itself w.cell))
        ∙ go (is_cell g.grid (cell_on to at)) refl
      where
        go : (b : Bool) → is_cell g.grid (cell_on to at) ≡ b →
            cond b (wire_across table w.track (meeting_at at from to) ∷ []) []
            ≡ made_in (cell_on to at)
        go true h =
            let found : meeting g.grid w.cell (cell_on to at) ≡ Some (meeting_at at from to) =
            meeting-found g.grid w.cell (cell_on to at) (meeting_at at from to)
            (record {
              column = column;
              row = row;
              sides = d;
              first = (there, e);
              second = (h, refl);
            }) in ap (given_at to) (sym found)
        go false h = ap (given_at to)
            (sym (unmet (is_cell g.grid w.cell) (is_cell g.grid (cell_on to at))
            (find (is_meeting_of w.cell (cell_on to at)) (all_meetings g.grid)) h))

    made_across : (from : Side) → w.cell ≡ cell_on from at →
        made_from at from ≡ flat_map made_in (cells_across at from)
    made_across Left e = three-rows (alike Left Right e (λ d. cc)) (alike Left Bottom e (λ d. cc))
        (alike Left Top e (λ d. cc))
    made_across Right e = three-rows (alike Right Left e (λ d. cc)) (alike Right Bottom e (λ d. cc))
        (alike Right Top e (λ d. cc))
    made_across Bottom e = three-rows (alike Bottom Left e (λ d. cc))
        (alike Bottom Right e (λ d. cc)) (alike Bottom Top e (λ d. cc))
    made_across Top e = three-rows (alike Top Left e (λ d. cc)) (alike Top Right e (λ d. cc))
        (alike Top Bottom e (λ d. cc))

abbrev wire_at : Axis → (x y track : ℕ) → Wire
wire_at axis x y track = record { cell = record { axis = axis; x = x; y = y }; track = track }

x_of : {a b : Cell} → a ≡ b → a.x ≡ b.x
x_of e = ap (λ (c : Cell). c.x) e

y_of : {a b : Cell} → a ≡ b → a.y ≡ b.y
y_of e = ap (λ (c : Cell). c.y) e

one_axis : {a b : Cell} → a ≡ b → a.axis ≡ b.axis
one_axis e = ap (λ (c : Cell). c.axis) e

i_of : {a b : SwitchAt} → a ≡ b → a.i ≡ b.i
i_of e = ap (λ (at : SwitchAt). at.i) e

j_of : {a b : SwitchAt} → a ≡ b → a.j ≡ b.j
j_of e = ap (λ (at : SwitchAt). at.j) e

-- the switch blocks at the ends of a cell
abbrev lower_of : Cell → SwitchAt
lower_of cell = lower_end cell.axis cell.x cell.y

abbrev upper_of : Cell → SwitchAt
upper_of cell = upper_end cell.x cell.y

-- a cell with this switch block at an end is on this side of it
abbrev IsEnd : Side → SwitchAt → Cell → Type 0
IsEnd side at cell = ((side ≡ lower_side cell.axis) × (lower_of cell ≡ at))
    ⊎ ((side ≡ upper_side cell.axis) × (upper_of cell ≡ at))

-- a switch block is an end of the cell on each of its sides
is-end : (side : Side) (at : SwitchAt) → IsEnd side at (cell_on side at)
is-end Left at = inr (refl, refl)
is-end Right at =
    let e : at.i + 1 - 1 ≡ at.i = omega arith in inl (refl, λ k. block_at (e k) at.j)
is-end Bottom at = inr (refl, refl)
is-end Top at =
    let e : at.j + 1 - 1 ≡ at.j = omega arith in inl (refl, λ k. block_at at.i (e k))

-- the ends of a cell of the array differ
ends-apart : (grid : Size) (axis : Axis) (x y : ℕ) → is_channel_place grid axis x y ≡ true →
    upper_end x y ≢ lower_end axis x y
ends-apart grid X x y h e = absurd (omega (arith, i_of e, (low-x grid x y h).0))
ends-apart grid Y x y h e = absurd (omega (arith, j_of e, (low-y grid x y h).1))

-- where one side alone makes anything, that is all
one_side : {A : Type 0} (f : Side → List A) (side : Side) →
    ((other : Side) → other ≢ side → f other ≡ []) → flat_map f all_sides ≡ f side
one_side f Left none =
    rw (none Right (λ e. cc), none Bottom (λ e. cc), none Top (λ e. cc)) (append-nil (f Left))
one_side f Right none =
    rw (none Left (λ e. cc), none Bottom (λ e. cc), none Top (λ e. cc)) (append-nil (f Right))
one_side f Bottom none =
    rw (none Left (λ e. cc), none Right (λ e. cc), none Top (λ e. cc)) (append-nil (f Bottom))
one_side f Top none =
    rw (none Left (λ e. cc), none Right (λ e. cc), none Bottom (λ e. cc)) (append-nil (f Top))

-- the switch blocks at the ends of a wire's cell make all
module _ (g : GraphOf) (w : Wire) (there : is_cell g.grid w.cell ≡ true) where
  standing : (side : Side) (at : SwitchAt) → w.cell ≡ cell_on side at → IsEnd side at w.cell
  standing side at e = subst (λ (c : Cell). IsEnd side at c) (sym e) (is-end side at)

  made_elsewhere : (i j : ℕ) → lower_of w.cell ≢ block_at i j → upper_of w.cell ≢ block_at i j →
      made_at g w i j ≡ []
  made_elsewhere i j low high = rows-none (made_from g w (block_at i j)) all_sides
      (λ side h. nothing_from g w (block_at i j) side (λ e. elim (standing side (block_at i j) e) [
        | inl lower ↦ low lower.1
        | inr upper ↦ high upper.1
      ]))

  made_at_end : (side : Side) (at : SwitchAt)
      → (w.cell ≡ cell_on side at) × (at.i ≤ g.grid.nx) × (at.j ≤ g.grid.ny)
      → ((other : Side) → IsEnd other at w.cell → other ≡ side)
      → made_at g w at.i at.j ≡ flat_map (made_in g w) (cells_across at side)
  made_at_end side at end only =
      one_side (made_from g w at) side
      (λ other d. nothing_from g w at other (λ e. d (only other (standing other at e))))
      ∙ made_across g w there at end.1 end.2 side end.0

  made_around : made_at g w (lower_of w.cell).i (lower_of w.cell).j
      ++ made_at g w (upper_of w.cell).i (upper_of w.cell).j
      ≡ flat_map (made_in g w) (cells_around w.cell)
  made_around =
      let apart = ends-apart g.grid w.cell.axis w.cell.x w.cell.y there in
      let low = made_at_end (lower_side w.cell.axis) (lower_of w.cell)
      (lower g.grid w.cell.axis w.cell.x w.cell.y there) (λ other o. elim o [
        | inl lower ↦ lower.0
        | inr upper ↦ absurd (apart upper.1)
      ]) in
      let high = made_at_end (upper_side w.cell.axis) (upper_of w.cell)
      (upper g.grid w.cell.axis w.cell.x w.cell.y there) (λ other o. elim o [
        | inl lower ↦ absurd (apart (sym lower.1))
        | inr upper ↦ upper.0
      ]) in
      (λ k. low k ++ high k)
      ∙ sym (flat_map-append (made_in g w) (cells_across (lower_of w.cell) (lower_side w.cell.axis))
      (cells_across (upper_of w.cell) (upper_side w.cell.axis)))

by_ends : (g : GraphOf) (axis : Axis) (x y t : ℕ) → is_channel_place g.grid axis x y ≡ true →
    joined_wires g (wire_at axis x y t)
    ≡ flat_map (made_in g (wire_at axis x y t)) (cells_around (wire_at axis x y t).cell)
by_ends g X x y t h =
    let w = wire_at X x y t in
    let place = low-x g.grid x y h in
    let next : x - 1 + 1 ≡ x = omega (arith, place.0) in
    let column = λ (i : ℕ). flat_map (made_at g w i) (range_with_len 0 (g.grid.ny + 1)) in
    let in_row = λ (i : ℕ). rows-one (made_at g w i) 0 (g.grid.ny + 1) y
    (λ j from d. made_elsewhere g w h i j (λ e. d (sym (j_of e))) (λ e. d (sym (j_of e))))
    (inside 0 (g.grid.ny + 1) y (omega arith) (omega (arith, place.2))) in
    by_blocks g w
    ∙ rows-two column 0 (g.grid.nx + 1) (x - 1)
    (λ i from d e. in_row i ∙ made_elsewhere g w h i y
    (λ k. d (sym (i_of k))) (λ k. e (sym (i_of k) ∙ sym next)))
    (inside 0 (g.grid.nx + 1) (x - 1) (omega arith) (omega (arith, place.1)))
    (inside 0 (g.grid.nx + 1) (x - 1 + 1) (omega arith) (omega (arith, place.1, next)))
    ∙ (λ k. in_row (x - 1) k ++ (ap column next ∙ in_row x) k)
    ∙ made_around g w h
by_ends g Y x y t h =
    let w = wire_at Y x y t in
    let place = low-y g.grid x y h in
    let next : y - 1 + 1 ≡ y = omega (arith, place.1) in
    let rows = range_with_len 0 (g.grid.ny + 1) in
    by_blocks g w
    ∙ rows-one (λ i. flat_map (made_at g w i) rows) 0 (g.grid.nx + 1) x
    (λ i from d. rows-none (made_at g w i) rows
    (λ j k. made_elsewhere g w h i j (λ e. d (sym (i_of e))) (λ e. d (sym (i_of e)))))
    (inside 0 (g.grid.nx + 1) x (omega arith) (omega (arith, place.0)))
    ∙ rows-two (made_at g w x) 0 (g.grid.ny + 1) (y - 1)
    (λ j from d e. made_elsewhere g w h x j
    (λ k. d (sym (j_of k))) (λ k. e (sym (j_of k) ∙ sym next)))
    (inside 0 (g.grid.ny + 1) (y - 1) (omega arith) (omega (arith, place.2)))
    (inside 0 (g.grid.ny + 1) (y - 1 + 1) (omega arith) (omega (arith, place.2, next)))
    ∙ ap (λ (j : ℕ). made_at g w x (y - 1) ++ made_at g w x j) next
    ∙ made_around g w h

-- the wires in the cells round the wire's own, in the order of the switch blocks and sides
pub joined-around : (g : GraphOf) (w : Wire) → is_cell g.grid w.cell ≡ true →
    filter_map (joint_in g w) (cells_around w.cell) ≡ joined_wires g w
joined-around g w h =
    rows-some (joint_in g w) (cells_around w.cell)
    ∙ sym (by_ends g w.cell.axis w.cell.x w.cell.y w.track h)

-- the cell on another side of a switch block is one of those round it
in-around : (from to : Side) (at : SwitchAt) → from ≢ to →
    In (cells_around (cell_on from at)) (cell_on to at)
in-around Left Left at d = absurd (d refl)
in-around Left Right at d = inr (inr (inr (inl refl)))
in-around Left Bottom at d = inr (inr (inr (inr (inl refl))))
in-around Left Top at d = inr (inr (inr (inr (inr (inl refl)))))
in-around Right Left at d = let e : at.i + 1 - 1 ≡ at.i = omega arith in
    inl (λ k. cell_on Left (block_at (e k) at.j))
in-around Right Right at d = absurd (d refl)
in-around Right Bottom at d = let e : at.i + 1 - 1 ≡ at.i = omega arith in
    inr (inl (λ k. cell_on Bottom (block_at (e k) at.j)))
in-around Right Top at d = let e : at.i + 1 - 1 ≡ at.i = omega arith in
    inr (inr (inl (λ k. cell_on Top (block_at (e k) at.j))))
in-around Bottom Left at d = inr (inr (inr (inl refl)))
in-around Bottom Right at d = inr (inr (inr (inr (inl refl))))
in-around Bottom Bottom at d = absurd (d refl)
in-around Bottom Top at d = inr (inr (inr (inr (inr (inl refl)))))
in-around Top Left at d = let e : at.j + 1 - 1 ≡ at.j = omega arith in
    inl (λ k. cell_on Left (block_at at.i (e k)))
in-around Top Right at d = let e : at.j + 1 - 1 ≡ at.j = omega arith in
    inr (inl (λ k. cell_on Right (block_at at.i (e k))))
in-around Top Bottom at d = let e : at.j + 1 - 1 ≡ at.j = omega arith in
    inr (inr (inl (λ k. cell_on Bottom (block_at at.i (e k)))))
in-around Top Top at d = absurd (d refl)

row_column : {x y u v : ℕ} → row_cell x y ≢ column_cell u v
row_column e = let k : X ≡ Y = one_axis e in cc

column_row : {x y u v : ℕ} → column_cell x y ≢ row_cell u v
column_row e = let k : Y ≡ X = one_axis e in cc

-- the cells round a cell of the array differ from each other
apart-around : (grid : Size) (axis : Axis) (x y : ℕ) → is_channel_place grid axis x y ≡ true →
    IsApart (cells_around (record { axis = axis; x = x; y = y }))
apart-around grid X x y h =
    let some = (low-x grid x y h).0 in
    let left = row_cell (x - 1) y in
    let below = column_cell (x - 1) y in
    let above = column_cell (x - 1) (y + 1) in
    let right = row_cell (x + 1) y in
    let bottom = column_cell x y in
    let top = column_cell x (y + 1) in
    let left_right : left ≢ right = λ e. absurd (omega (arith, x_of e, some)) in
    let below_above : below ≢ above = λ e. absurd (omega (arith, y_of e)) in
    let below_bottom : below ≢ bottom = λ e. absurd (omega (arith, x_of e, some)) in
    let below_top : below ≢ top = λ e. absurd (omega (arith, x_of e, some)) in
    let above_bottom : above ≢ bottom = λ e. absurd (omega (arith, x_of e, some)) in
    let above_top : above ≢ top = λ e. absurd (omega (arith, x_of e, some)) in
    let bottom_top : bottom ≢ top = λ e. absurd (omega (arith, y_of e)) in
    let first = none-of left (below ∷ above ∷ right ∷ bottom ∷ top ∷ [])
    (row_column, (row_column, (left_right, (row_column, (row_column, tt))))) in
    let second = none-of below (above ∷ right ∷ bottom ∷ top ∷ [])
    (below_above, (column_row, (below_bottom, (below_top, tt)))) in
    let third = none-of above (right ∷ bottom ∷ top ∷ [])
    (column_row, (above_bottom, (above_top, tt))) in
    let fourth = none-of right (bottom ∷ top ∷ []) (row_column, (row_column, tt)) in
    let fifth = none-of bottom (top ∷ []) (bottom_top, tt) in
    (first, (second, (third, (fourth, (fifth, ((λ z i. absurd i), tt))))))
apart-around grid Y x y h =
    let some = (low-y grid x y h).1 in
    let left = row_cell x (y - 1) in
    let right = row_cell (x + 1) (y - 1) in
    let bottom = column_cell x (y - 1) in
    let before = row_cell x y in
    let behind = row_cell (x + 1) y in
    let top = column_cell x (y + 1) in
    let left_right : left ≢ right = λ e. absurd (omega (arith, x_of e)) in
    let left_before : left ≢ before = λ e. absurd (omega (arith, y_of e, some)) in
    let left_behind : left ≢ behind = λ e. absurd (omega (arith, x_of e)) in
    let right_before : right ≢ before = λ e. absurd (omega (arith, x_of e)) in
    let right_behind : right ≢ behind = λ e. absurd (omega (arith, y_of e, some)) in
    let bottom_top : bottom ≢ top = λ e. absurd (omega (arith, y_of e, some)) in
    let before_behind : before ≢ behind = λ e. absurd (omega (arith, x_of e)) in
    let first = none-of left (right ∷ bottom ∷ before ∷ behind ∷ top ∷ [])
    (left_right, (row_column, (left_before, (left_behind, (row_column, tt))))) in
    let second = none-of right (bottom ∷ before ∷ behind ∷ top ∷ [])
    (row_column, (right_before, (right_behind, (row_column, tt)))) in
    let third = none-of bottom (before ∷ behind ∷ top ∷ [])
    (column_row, (column_row, (bottom_top, tt))) in
    let fourth = none-of before (behind ∷ top ∷ []) (before_behind, (row_column, tt)) in
    let fifth = none-of behind (top ∷ []) (row_column, tt) in
    (first, (second, (third, (fourth, (fifth, ((λ z i. absurd i), tt))))))

module _ (g : GraphOf) (w : Wire) where
  -- the wire that is made in a cell is one of the cell, and joined to this one
  of_cell : (cell : Cell) (v : Wire) → In (made_in g w cell) v → v.cell ≡ cell
  of_cell cell v i = go (track_across (table g w) g.grid w.cell cell w.track) i
    where
      go : (o : Option ℕ) → In (option_to_list (option_map (wire_in cell) o)) v → v.cell ≡ cell
      go None j = absurd j
      go (Some t) j = elim j [
        | inl e ↦ ap (λ (u : Wire). u.cell) (sym e)
        | inr none ↦ absurd none
      ]

  crossing : (cell : Cell) (v : Wire) → joint_in g w cell ≡ Some v →
      track_across (table g w) g.grid w.cell v.cell w.track ≡ Some v.track
  crossing cell v h = go (track_across (table g w) g.grid w.cell cell w.track) refl h
    where
      go : (o : Option ℕ) → track_across (table g w) g.grid w.cell cell w.track ≡ o →
          option_map (wire_in cell) o ≡ Some v →
          track_across (table g w) g.grid w.cell v.cell w.track ≡ Some v.track
      go None e f = absurd (none_is_not_some f)
      go (Some t) e f =
          subst (λ (u : Wire). track_across (table g w) g.grid w.cell u.cell w.track ≡ Some u.track)
          (some_is f) e

  -- the cell of a wire that this one is joined to is one of those round its own
  around-joined : (v : Wire) → AreJoined (table g w) g.grid w v → In (cells_around w.cell) v.cell
  around-joined v joined =
      let m = joined.0 in let meets = joined.1 in
      subst (λ (c : Cell). In (cells_around c) v.cell) (sym meets.first.1)
      (subst (λ (c : Cell). In (cells_around (cell_on m.from m.at)) c) (sym meets.second.1)
      (in-around m.from m.to m.at meets.sides))

  -- each wire that is joined to this one, once, and no other
  pub are-joints : is_cell g.grid w.cell ≡ true → AreJoints g w (joined_wires g w)
  are-joints h = record {
    each = λ v. (
      (λ has. let found = from_In-filter_map (joint_in g w) (cells_around w.cell) v
          (subst (λ (ws : List Wire). In ws v) (sym (joined-around g w h))
          (In-contains (joined_wires g w) v has)) in
          across-joined (table g w) g.grid w v (crossing found.0 v found.2)),
      (λ joined. contains-In (joined_wires g w) v
          (subst (λ (ws : List Wire). In ws v) (joined-around g w h)
          (In-filter_map (joint_in g w) (cells_around w.cell) v.cell v (around-joined v joined)
          (ap (option_map (wire_in v.cell)) (joined-across (table g w) g.grid w v joined))))),
    );
    once = all_pairs-apart (joined_wires g w)
        (subst (λ (ws : List Wire). IsApart ws)
        (sym (by_ends g w.cell.axis w.cell.x w.cell.y w.track h))
        (apart-rows (λ (v : Wire). v.cell) (made_in g w) (cells_around w.cell) of_cell
        (λ cell. apart-option (joint_in g w cell))
        (apart-around g.grid w.cell.axis w.cell.x w.cell.y h)));
  }
