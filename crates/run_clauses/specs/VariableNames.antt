-- `encode --names`: comments before the clauses, which say which variable is which net's cell and
-- track.
use Rattle.std.specs.Prelude.{ℕ, ◌≤◌, Bool, true, false, [], ◌++◌, length, flat_map, codes, decimal}
use Rattle.fpga_route.specs.ReadBack.{IsPrintable}
use Rattle.fpga_types.specs.Slots.{slot_at, slots}
use Rattle.fpga_types.specs.declared.grid.Axis.{Axis}
use Rattle.fpga_types.specs.declared.grid.Axis.TheVariants.{X, Y}
use Rattle.fpga_types.specs.declared.grid.Cell.{Cell}
use Rattle.route_encode.specs.Encoding.{below, has}
use Rattle.route_sweep.specs.NetNames.{name_at}
use Rattle.sat_clause.specs.declared.limits.TheConstants.{CLAUSE_LIMIT}
use Rattle.sat_clause.specs.declared.literal.Lit.{Lit}
use Rattle.sat_text.specs.CnfText.{ReadsCnf}
use Rattle.sat_text.specs.Printed.{cnf_text, literal_text}
use Rattle.run_outcome.specs.Subject.{Bytes, Cnf, RouteText}

-- what stands before the name of a net: the literal as clauses have it
abbrev pub before_net : Lit → Bytes
before_net literal = codes "c " ++ literal_text literal ++ codes "net "

-- what stands before the place of a cell
abbrev pub before_place : Axis → Bytes
before_place X = codes " CHANX ("
before_place Y = codes " CHANY ("

-- a track of a cell, and the end of the line
abbrev pub track_said : Cell → (track : ℕ) → Bytes
track_said cell track =
    before_place cell.axis ++ decimal cell.x ++ codes "," ++ decimal cell.y ++ codes ") track "
    ++ decimal track ++ codes "\n"

-- the line that says which track of which cell the net of a name has where a literal is true
abbrev pub name_line : Lit → (name : Bytes) → Cell → (track : ℕ) → Bytes
name_line literal name cell track = before_net literal ++ (name ++ track_said cell track)

-- the lines of the slot with this number, by its net and its cell: one for each track
abbrev pub slot_lines : (width number : ℕ) → (name : Bytes) → Cell → Bytes
slot_lines width number name cell =
    flat_map (λ track. name_line (has width number track) name cell track) (below width)

-- the lines of the slot of a route with this number
abbrev pub lines_of_slot : (width : ℕ) → RouteText → (number : ℕ) → Bytes
lines_of_slot width route number =
    let slot = slot_at (slots route) number in
    slot_lines width number (name_at route slot.net) slot.cell

-- the lines of all slots of a route, in the order of the variables
abbrev pub names_text : (width : ℕ) → RouteText → Bytes
names_text width route = flat_map (lines_of_slot width route) (below (length (slots route)))

-- these lines, if they are asked for
abbrev pub names_if : (asked : Bool) → (width : ℕ) → RouteText → Bytes
names_if true width route = names_text width route
names_if false width route = []

-- the printed form of clauses, behind the names of the variables if these are asked for
abbrev pub named_text : (asked : Bool) → (width : ℕ) → RouteText → Cnf → Bytes
named_text asked width route formula = names_if asked width route ++ cnf_text formula

-- where the route can be printed, this text of clauses reads as them, if they are few enough
abbrev pub ReadsBehindNames : (asked : Bool) → (width : ℕ) → RouteText → Cnf → Type 0
ReadsBehindNames asked width route formula =
    IsPrintable route → length formula.clauses ≤ CLAUSE_LIMIT
    → ReadsCnf (named_text asked width route formula) formula
