-- Where the elements of a net of a generated problem stand.
use Rattle.std.proofs.Common.{◌≡◌, ℕ, zero, suc, ◌+◌, ◌*◌, ◌<◌, ◌≤◌, ◌^◌, true, None, List, [], ◌∷◌, ◌++◌, arith}
use Rattle.std.specs.Int.{abs_diff}
use Rattle.std.specs.Prelude.{map}
use Rattle.std.specs.List.{AllByRecursion, range_with_len}
use Rattle.std.proofs.lemmas.Bool.{and_from, le-leb, ltb-false, ltb-true}
use Rattle.fpga_types.specs.Kinds.{takes}
use Rattle.fpga_types.specs.Size.{Size}
use Rattle.fpga_types.specs.Slots.{channel_at}
use Rattle.fpga_types.specs.declared.limits.TheConstants.{SIDE_LIMIT}
use Rattle.fpga_types.specs.declared.route.ElemKind.{ElemKind}
use Rattle.fpga_types.specs.declared.route.ElemKind.TheVariants.{ChanX, ChanY}
use Rattle.fpga_types.specs.declared.route.Label.{Label}
use Rattle.fpga_route.specs.ReadBack.{IsPrintableElem}
use Rattle.route_gen.specs.Draws.{location_of}
use Rattle.route_gen.specs.Traces.{along_column, along_row, channel, elem_at, to_row, towards, trace}
use Rattle.route_gen.specs.declared.draws.TheConstants.{INPUT_COUNT}
use Rattle.route_gen.specs.declared.location.Location.{Location}
use Rattle.route_gen.proofs.PlaceLemmas.{row_within}

-- an array of one side
abbrev pub square_of : (side : ℕ) → Size
square_of side = record { nx = side; ny = side }

-- a place of the array
pub record IsPlace (side : ℕ) (at : Location) : Type 0 where
  pub column_above : 1 ≤ at.column
  pub column_below : at.column ≤ side
  pub row_above : 1 ≤ at.row
  pub row_below : at.row ≤ side

-- each block has one
pub block-place : (side block : ℕ) → 1 ≤ side → block < side * side →
    IsPlace side (location_of side block)
block-place side block some below = grind (arith, row_within)

-- what holds of what is made of each number of a range
pub all_made : {T : Type 0} (P : T → Type 0) (f : ℕ → T) (a n : ℕ) →
    ((k : ℕ) → k < a + n → P (f k)) → AllByRecursion P (map f (range_with_len a n))
all_made P f a zero each = tt
all_made P f a (suc n) each =
    (each a (omega arith), all_made P f (a + 1) n (λ k below. each k (omega arith)))

-- what holds of the elements of two lists
pub all_joined : {T : Type 0} (P : T → Type 0) (xs ys : List T) → AllByRecursion P xs →
    AllByRecursion P ys → AllByRecursion P (xs ++ ys)
all_joined P [] ys front back = back
all_joined P (x ∷ xs) ys front back = (front.0, all_joined P xs ys front.1 back)

-- a number between two others
pub record IsBetween (low high n : ℕ) : Type 0 where
  pub above : low ≤ n
  pub below : n ≤ high

-- the way from one number to another stays between what they are between
pub towards-between : (low high from to steps : ℕ) → steps < abs_diff from to + 1 →
    IsBetween low high from → IsBetween low high to → IsBetween low high (towards from to steps)
towards-between low high from to steps few start end = grind (arith, ltb-true, ltb-false)

module _ (side : ℕ) (some : 1 ≤ side) (limit : side ≤ SIDE_LIMIT) where
  -- a cell above a row
  row-cell : (x y : ℕ) → IsBetween 1 side x → y ≤ side →
      IsPrintableElem (square_of side) (channel ChanX x y)
  row-cell x y at below = grind (arith, and_from, le-leb)

  -- a cell to the right of a column
  column-cell : (x y : ℕ) → x ≤ side → IsBetween 1 side y →
      IsPrintableElem (square_of side) (channel ChanY x y)
  column-cell x y below at = grind (arith, and_from, le-leb)

  -- the cells above a row
  row-cells : (row from to : ℕ) → row ≤ side → IsBetween 1 side from → IsBetween 1 side to →
      AllByRecursion (IsPrintableElem (square_of side)) (along_row row from to)
  row-cells row from to below start end =
      all_made (IsPrintableElem (square_of side))
      (λ steps. channel ChanX (towards from to steps) row) 0 (abs_diff from to + 1)
      (λ steps few. row-cell (towards from to steps) row
      (towards-between 1 side from to steps (omega arith) start end) below)

  -- the cells to the right of a column
  column-cells : (column from to : ℕ) → column ≤ side → IsBetween 1 side from →
      IsBetween 1 side to →
      AllByRecursion (IsPrintableElem (square_of side)) (along_column column from to)
  column-cells column from to below start end =
      all_made (IsPrintableElem (square_of side))
      (λ steps. channel ChanY column (towards from to steps)) 0 (abs_diff from to + 1)
      (λ steps few. column-cell column (towards from to steps) below
      (towards-between 1 side from to steps (omega arith) start end))

  -- the way in a column
  way-cells : (column from to : ℕ) → IsBetween 1 side column → from < side → to < side →
      AllByRecursion (IsPrintableElem (square_of side)) (to_row column from to)
  way-cells column from to at start end =
      grind (arith, row-cell, ltb-true, all_joined, column-cells)

  -- an element that is no channel
  place-elem : (kind : ElemKind) (at : Location) (label : Label) (number : ℕ) →
      IsPlace side at → number < 2 ^ 32 → takes kind label ≡ true →
      channel_at kind at.column at.row ≡ None →
      IsPrintableElem (square_of side) (elem_at kind at label number)
  place-elem kind at label number place small labelled other = grind (arith, and_from, le-leb)

  -- all elements of a net
  pub trace-elems : (driver sink : Location) (pin : ℕ) → IsPlace side driver → IsPlace side sink →
      pin < INPUT_COUNT → AllByRecursion (IsPrintableElem (square_of side)) (trace driver sink pin)
  trace-elems driver sink pin from to few =
      grind (arith, place-elem, all_joined, row-cells, way-cells)
