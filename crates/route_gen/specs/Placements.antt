-- The placement of a generated problem.
use Rattle.std.specs.Prelude.{ℕ, ◌*◌, ◌++◌, flat_map, codes, decimal}
use Rattle.std.specs.List.{range_with_len}
use Rattle.fpga_text.specs.Bytes.{Bytes}
use Rattle.route_gen.specs.Draws.{location_of}
use Rattle.route_gen.specs.Netlists.{block_name}

-- the two head lines
abbrev pub placement_head : (side : ℕ) → Bytes
placement_head side = codes "Netlist file: gen.net Architecture file: gen.arch\nArray size: "
    ++ decimal side ++ codes " x " ++ decimal side ++ codes " logic blocks\n"

-- the line of a block
abbrev pub place_line : (side block : ℕ) → Bytes
place_line side block = block_name block ++ codes " " ++ decimal (location_of side block).column
    ++ codes " " ++ decimal (location_of side block).row ++ codes " 0\n"

-- the placement of an array of this side, in which each place has its block
abbrev pub generated_placement : (side : ℕ) → Bytes
generated_placement side =
    placement_head side ++ flat_map (place_line side) (range_with_len 0 (side * side))
