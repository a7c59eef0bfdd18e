-- The way of a net of a generated problem: below its driver's row, and then up or down a column to
-- its sink.
use Rattle.std.specs.Prelude.{ℕ, ◌+◌, ◌-◌, ◌≤◌, nat_lt, List, [], ◌∷◌, ◌++◌, map, if◌then◌else◌}
use Rattle.std.specs.Int.{abs_diff}
use Rattle.std.specs.List.{range_with_len}
use Rattle.fpga_types.specs.declared.limits.TheConstants.{SIDE_LIMIT}
use Rattle.fpga_types.specs.declared.route.Elem.{Elem}
use Rattle.fpga_types.specs.declared.route.ElemKind.{ElemKind}
use Rattle.fpga_types.specs.declared.route.ElemKind.TheVariants.{Source, Opin, ChanX, ChanY, Ipin, Sink}
use Rattle.fpga_types.specs.declared.route.Label.{Label}
use Rattle.fpga_types.specs.declared.route.Label.TheVariants.{Class, Pin, Track}
use Rattle.route_gen.specs.declared.location.Location.{Location}
use Rattle.route_gen.specs.declared.trace.TheConstants.{INPUT_CLASS, OUTPUT_CLASS, OUTPUT_PIN}

-- the number that stands so many steps from one towards another
abbrev pub towards : (from to steps : ℕ) → ℕ
towards from to steps = if nat_lt to from then from - steps else from + steps

-- how many steps may be taken from one number to another
abbrev pub steps_between : (from to : ℕ) → List ℕ
steps_between from to = range_with_len 0 (abs_diff from to + 1)

-- a place of an array
abbrev pub IsOnArray : Location → Type 0
IsOnArray at = (1 ≤ at.column) × (at.column ≤ SIDE_LIMIT) × (1 ≤ at.row) × (at.row ≤ SIDE_LIMIT)

-- an element; lines have their numbers when the text is read
abbrev pub elem_at : ElemKind → Location → Label → (number : ℕ) → Elem
elem_at kind at label number = record {
  kind = kind;
  x = at.column;
  y = at.row;
  label = label;
  number = number;
  line = 0;
}

-- a channel cell, with track 0
abbrev pub channel : ElemKind → (x y : ℕ) → Elem
channel kind x y = elem_at kind (record { column = x; row = y }) Track 0

-- the cells above a row, from one column to another
abbrev pub along_row : (row from to : ℕ) → List Elem
along_row row from to =
    map (λ steps. channel ChanX (towards from to steps) row) (steps_between from to)

-- the cells to the right of a column, from one row to another
abbrev pub along_column : (column from to : ℕ) → List Elem
along_column column from to =
    map (λ steps. channel ChanY column (towards from to steps)) (steps_between from to)

-- the way in a column from the channel above one row to that above another: the cells beside the
-- rows between, and the cell where it ends; nothing where the rows are one
abbrev pub to_row : (column from to : ℕ) → List Elem
to_row column from to =
    if nat_lt from to then along_column column (from + 1) to ++ channel ChanX column to ∷ []
    else if nat_lt to from then along_column column from (to + 1) ++ channel ChanX column to ∷ []
    else []

-- the cells from below a driver to below a sink: along the row, and then in the sink's column
abbrev pub cells : (driver sink : Location) → List Elem
cells driver sink = along_row (driver.row - 1) driver.column sink.column
    ++ to_row sink.column (driver.row - 1) (sink.row - 1)

-- the elements of a net from a driver to a pin of a sink
abbrev pub trace : (driver sink : Location) → (pin : ℕ) → List Elem
trace driver sink pin =
    elem_at Source driver Class OUTPUT_CLASS ∷ elem_at Opin driver Pin OUTPUT_PIN
    ∷ cells driver sink ++ elem_at Ipin sink Pin pin ∷ elem_at Sink sink Class INPUT_CLASS ∷ []
