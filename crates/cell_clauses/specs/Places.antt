-- The variables of clauses over cells, by their places from 0 on: first whether a net uses a cell,
-- then how many of the first nets do, then whether a net comes to a sink by a pin.
use Rattle.std.specs.Prelude.{ℕ, suc, ◌+◌, ◌*◌, pos, negsuc, length}
use Rattle.fpga_types.specs.declared.grid.PinAt.{PinAt}
use Rattle.fpga_types.specs.declared.grid.PinAt.TheVariants.{Pad as PadAt, Pin as PinOf}
use Rattle.sat_clause.specs.declared.literal.Lit.{Lit}
use Rattle.sat_clause.specs.Literal.{lit}
use Rattle.cell_clauses.specs.Frames.{Frame}

-- how many variables say of a net and a cell that the net uses it
abbrev pub use_count : Frame → ℕ
use_count f = length f.nets * length f.cells

-- how many say of the first nets and a cell how many use it
abbrev pub tally_count : Frame → ℕ
tally_count f = (length f.nets + 1) * length f.cells * f.width

-- how many numbers pins have, the pad's among them
abbrev pub pin_count : Frame → ℕ
pin_count f = length f.arch.pins + 1

-- how many say of a sink and a pin that the net comes to the sink by it
abbrev pub entry_count : Frame → ℕ
entry_count f = length f.arrivals * pin_count f

abbrev pub variable_count : Frame → ℕ
variable_count f = use_count f + tally_count f + entry_count f

-- net k uses cell c, of so many cells
abbrev pub use_at : (cells k c : ℕ) → ℕ
use_at cells k c = k * cells + c

abbrev pub use_place : Frame → (k c : ℕ) → ℕ
use_place f k c = use_at (length f.cells) k c

-- of the first k nets more than j use cell c, of so many nets, cells and tracks
abbrev pub tally_at : (nets cells width k c j : ℕ) → ℕ
tally_at nets cells width k c j = nets * cells + ((k * cells + c) * width + j)

abbrev pub tally_place : Frame → (k c j : ℕ) → ℕ
tally_place f k c j = tally_at (length f.nets) (length f.cells) f.width k c j

-- arrival a is by the pin with this number
abbrev pub entry_place : Frame → (a number : ℕ) → ℕ
entry_place f a number = use_count f + tally_count f + (a * pin_count f + number)

-- the number of a pin at its place; that of a pad is 0
abbrev pub pin_number : PinAt → ℕ
pin_number (PadAt x y sub) = 0
pin_number (PinOf x y pin) = pin

-- it is so, and it is not so; variables are numbered from 1
abbrev pub has : (place : ℕ) → Lit
has place = lit (pos (suc place))

abbrev pub lacks : (place : ℕ) → Lit
lacks place = lit (negsuc place)
