-- Where blocks may stand, as the placement text of VPR 4.30 has it, and what no two blocks share.
use Rattle.std.specs.Prelude.{ℕ, ◌+◌, ◌==◌, nat_lt, nat_le, Bool, false, ◌&&◌, ◌||◌}
use Rattle.fpga_types.specs.Size.{Size}
use Rattle.fpga_types.specs.declared.netlist.BlockKind.{BlockKind}
use Rattle.fpga_types.specs.declared.netlist.BlockKind.TheVariants.{Input, Output, Logic}
use Rattle.fpga_types.specs.declared.placement.Place.{Place}
use Rattle.fpga_types.specs.declared.placement.Spot.{Spot}
use Rattle.fpga_types.specs.declared.placement.Spot.TheVariants.{Block, Pad}

-- the number is from 1 to the most
abbrev pub is_within : (most n : ℕ) → Bool
is_within most n = nat_le 1 n && nat_le n most

-- the number is one before 1, or one behind the most
abbrev pub is_next_to : (most n : ℕ) → Bool
is_next_to most n = n == 0 || n == most + 1

-- the place is one of the array
abbrev pub is_inside : Size → Place → Bool
is_inside grid p = is_within grid.nx p.x && is_within grid.ny p.y

-- the place is beside the array: left or right of a row, or below or above a column
abbrev pub is_beside : Size → Place → Bool
is_beside grid p = is_next_to grid.nx p.x && is_within grid.ny p.y
    || is_next_to grid.ny p.y && is_within grid.nx p.x

-- a block of this kind may stand there: a logic block in the array, a pad beside it, where each
-- place has room for `io_rat` pads
abbrev pub is_lawful : Size → (io_rat : ℕ) → BlockKind → Place → Bool
is_lawful grid io_rat Logic p = is_inside grid p
is_lawful grid io_rat Input p = is_beside grid p && nat_lt p.sub io_rat
is_lawful grid io_rat Output p = is_beside grid p && nat_lt p.sub io_rat

-- what a block of this kind takes up: a logic block its place, a pad its place with its subblock
-- number
abbrev pub spot_of : BlockKind → Place → Spot
spot_of Logic p = Block p.x p.y
spot_of Input p = Pad p.x p.y p.sub
spot_of Output p = Pad p.x p.y p.sub

-- the two are one spot
abbrev pub same_spot : Spot → Spot → Bool
same_spot (Block x y) (Block u v) = x == u && y == v
same_spot (Pad x y sub) (Pad u v number) = x == u && y == v && sub == number
same_spot (Block x y) (Pad u v number) = false
same_spot (Pad x y sub) (Block u v) = false
