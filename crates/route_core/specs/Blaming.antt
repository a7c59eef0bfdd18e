-- The marks by which the nets to blame are found.
use Rattle.std.specs.Prelude.{ℕ, zero, suc, ℤ, pos, negsuc, Bool, false, ◌&&◌, nat_lt, List, [], Option, None, Some, if◌then◌else◌, slice_index_or}
use Rattle.std.specs.Ordering.{int_eq}
use Rattle.fpga_types.specs.declared.problem.Slot.{Slot}
use Rattle.sat_clause.specs.Literal.{Clause}
use Rattle.route_core.specs.Blamed.{speaks_of}

-- the hint is the id of the input clause at a position
abbrev pub names_input : ℕ → ℤ → Bool
names_input at hint = int_eq hint (pos (suc at))

-- the position of the input clause, of so many, that a hint names
abbrev pub input_named : ℕ → ℤ → Option ℕ
input_named count (pos zero) = None
input_named count (pos (suc at)) = if nat_lt at count then Some at else None
input_named count (negsuc at) = None

-- the input clause at a position is a used one, and speaks of the net
abbrev pub blames_at : (used : List Bool) → List Clause → (width : ℕ) → List Slot → (net at : ℕ)
    → Bool
blames_at used clauses width all net at = slice_index_or used at false
    && speaks_of width all net (slice_index_or clauses at [])
