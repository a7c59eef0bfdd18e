-- The clauses over cells of a window: what is so in every routing, whatever its tracks, switch
-- blocks and connection boxes.
use Rattle.std.specs.Prelude.{ℕ, ◌+◌, nat_lt, Bool, false, not, ◌&&◌, List, [], ◌∷◌, ◌++◌, map, filter, flat_map, length, slice_get, is_some, if◌then◌else◌}
use Rattle.std.specs.List.{enumerate_from, list_any, range_with_len}
use Rattle.std.specs.Option.{option_map_or}
use Rattle.fpga_types.specs.Fabric.{meeting}
use Rattle.fpga_types.specs.Terminals.{same_terminal}
use Rattle.fpga_types.specs.Touching.{touches}
use Rattle.fpga_types.specs.declared.grid.Cell.{Cell}
use Rattle.fpga_types.specs.declared.grid.PinAt.{PinAt}
use Rattle.fpga_types.specs.declared.problem.Terminal.{Terminal}
use Rattle.route_bound.specs.Corners.{has_corner_in, has_corner_out}
use Rattle.route_bound.specs.Lying.{Cells, lies_in, pins_at}
use Rattle.sat_clause.specs.Formula.{Cnf}
use Rattle.sat_clause.specs.Literal.{Clause}
use Rattle.cell_clauses.specs.Frames.{Frame}
use Rattle.cell_clauses.specs.Places.{entry_place, has, lacks, pin_number, tally_at, use_at, use_place, variable_count}
use Rattle.cell_clauses.specs.declared.window.Arrival.{Arrival}
use Rattle.cell_clauses.specs.declared.window.WindowNet.{WindowNet}

-- the numbers below n, rising
abbrev pub below : ℕ → List ℕ
below n = range_with_len 0 n

-- of the first k of so many nets more than j use a cell, where there are so many tracks
abbrev pub more_at : (nets cells width k c j : ℕ) → Clause
more_at nets cells width k c j =
    if nat_lt j width then has (tally_at nets cells width k c j) ∷ [] else []

-- with net k no fewer use a cell
abbrev pub kept_at : (nets cells width k c j : ℕ) → Clause
kept_at nets cells width k c j =
    lacks (tally_at nets cells width k c j) ∷ has (tally_at nets cells width (k + 1) c j) ∷ []

-- and one more, if it uses that, but not more than there are tracks
abbrev pub raised_at : (nets cells width k c j : ℕ) → Clause
raised_at nets cells width k c j = lacks (use_at cells k c)
    ∷ lacks (tally_at nets cells width k c j) ∷ more_at nets cells width (k + 1) c (j + 1)

-- net k is counted at a cell where more than j of the nets before it use that
abbrev pub steps_at : (nets cells width k c j : ℕ) → List Clause
steps_at nets cells width k c j =
    kept_at nets cells width k c j ∷ raised_at nets cells width k c j ∷ []

-- it is one of more than none that use the cell, if it does
abbrev pub first_at : (nets cells width k c : ℕ) → Clause
first_at nets cells width k c = lacks (use_at cells k c) ∷ more_at nets cells width (k + 1) c 0

-- net k is counted at a cell
abbrev pub tallies_at : (nets cells width k c : ℕ) → List Clause
tallies_at nets cells width k c = first_at nets cells width k c
    ∷ flat_map (steps_at nets cells width k c) (below width)

-- net k is counted at each cell
abbrev pub counts_at : (nets cells width k : ℕ) → List Clause
counts_at nets cells width k = flat_map (tallies_at nets cells width k) (below cells)

-- the window's cell at this place is in the set
abbrev pub is_cell_in : Frame → Cells → (c : ℕ) → Bool
is_cell_in f cells c = option_map_or cells (slice_get f.cells c) false

-- net k uses one of the window's cells that are in the set
abbrev pub uses_some : Frame → (k : ℕ) → Cells → Clause
uses_some f k cells =
    map (λ c. has (use_place f k c)) (filter (is_cell_in f cells) (below (length f.cells)))

-- the terminal touches the cell by one of its pins
abbrev pub is_reached : Frame → Terminal → Cells
is_reached f at cell = list_any (λ pin. touches f.arch f.grid pin cell) (pins_at f.arch at)

-- each cell that the terminal touches is one of the window
abbrev pub is_within : Frame → Terminal → Bool
is_within f at = lies_in f.arch f.grid (has_corner_in f.corners) at

-- a net uses a cell that its driver touches
abbrev pub leaves_clauses : Frame → ℕ × WindowNet → List Clause
leaves_clauses f net = if is_within f net.1.driver
    then uses_some f net.0 (is_reached f net.1.driver) ∷ [] else []

-- an arrival is by one of the sink's pins
abbrev pub enters_some : Frame → ℕ × Arrival → Clause
enters_some f arrival = map (λ pin. has (entry_place f arrival.0 (pin_number pin)))
    (pins_at f.arch arrival.1.at)

-- where it is by this pin, the net uses a cell that the pin touches
abbrev pub enters_by : Frame → ℕ × Arrival → PinAt → Clause
enters_by f arrival pin = lacks (entry_place f arrival.0 (pin_number pin))
    ∷ uses_some f arrival.1.net (touches f.arch f.grid pin)

abbrev pub enters_clauses : Frame → ℕ × Arrival → List Clause
enters_clauses f arrival = if is_within f arrival.1.at
    then enters_some f arrival ∷ map (enters_by f arrival) (pins_at f.arch arrival.1.at) else []

-- no later arrival at the same sink is by the same pin
abbrev pub not_both : Frame → (a b : ℕ) → PinAt → Clause
not_both f a b pin =
    lacks (entry_place f a (pin_number pin)) ∷ lacks (entry_place f b (pin_number pin)) ∷ []

abbrev pub pair_clauses : Frame → (first second : ℕ × Arrival) → List Clause
pair_clauses f first second =
    if nat_lt first.0 second.0 && same_terminal first.1.at second.1.at
    then map (not_both f first.0 second.0) (pins_at f.arch first.1.at) else []

abbrev pub apart_clauses : Frame → ℕ × Arrival → List Clause
apart_clauses f first = flat_map (pair_clauses f first) (enumerate_from 0 f.arrivals)

-- two cells of the array meet
abbrev pub meets : Frame → Cell → Cells
meets f a b = is_some (meeting f.grid a b)

-- a cell that a net uses and its driver does not touch meets another that the net uses, if all
-- cells that it meets are of the window
abbrev pub held_clauses : Frame → ℕ × WindowNet → ℕ × Cell → List Clause
held_clauses f net cell =
    if not (has_corner_out f.corners cell.1) && not (is_reached f net.1.driver cell.1)
    then (lacks (use_place f net.0 cell.0) ∷ uses_some f net.0 (meets f cell.1)) ∷ [] else []

abbrev pub support_clauses : Frame → ℕ × WindowNet → List Clause
support_clauses f net = flat_map (held_clauses f net) (enumerate_from 0 f.cells)

-- of the first k nets more than j use the cell, where there are so many tracks
abbrev pub more_than : Frame → (k c j : ℕ) → Clause
more_than f k c j = more_at (length f.nets) (length f.cells) f.width k c j

-- net k is counted at a cell where more than j of the nets before it use that
abbrev pub step_clauses : Frame → (k c j : ℕ) → List Clause
step_clauses f k c j = steps_at (length f.nets) (length f.cells) f.width k c j

-- net k is counted at a cell
abbrev pub tally_clauses : Frame → (k c : ℕ) → List Clause
tally_clauses f k c = tallies_at (length f.nets) (length f.cells) f.width k c

-- of all nets no more use a cell than it has tracks
abbrev pub count_clauses : Frame → (k : ℕ) → List Clause
count_clauses f k = counts_at (length f.nets) (length f.cells) f.width k

-- the clauses over cells of a window
abbrev pub cell_clauses : Frame → List Clause
cell_clauses f =
    flat_map (leaves_clauses f) (enumerate_from 0 f.nets)
    ++ flat_map (enters_clauses f) (enumerate_from 0 f.arrivals)
    ++ flat_map (apart_clauses f) (enumerate_from 0 f.arrivals)
    ++ flat_map (support_clauses f) (enumerate_from 0 f.nets)
    ++ flat_map (count_clauses f) (below (length f.nets))

-- as a formula
abbrev pub cell_cnf : Frame → Cnf
cell_cnf f = record { vars = variable_count f; clauses = cell_clauses f }
