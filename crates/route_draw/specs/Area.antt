-- Where a cell lies in a picture.
use Rattle.std.specs.Prelude.{ℕ, ◌+◌, ◌*◌, List, ◌++◌, codes, decimal}
use Rattle.fpga_types.specs.declared.grid.Axis.{Axis}
use Rattle.fpga_types.specs.declared.grid.Axis.TheVariants.{X, Y}
use Rattle.route_draw.specs.declared.scale.TheConstants.{BLOCK, CHANNEL, TILE}

-- a rectangle from its lower left corner on
abbrev pub rectangle : (x y width height : ℕ) → List ℕ
rectangle x y width height =
    codes "M" ++ (decimal x ++ (codes " " ++ (decimal y ++ (codes "h" ++ (decimal width
    ++ (codes "v" ++ (decimal height ++ (codes "h-" ++ (decimal width ++ codes "z")))))))))

-- that of a cell: as long as the block beside it, and as wide as its channel
abbrev pub area : Axis → (x y : ℕ) → List ℕ
area X x y = rectangle (x * TILE) (y * TILE + BLOCK) BLOCK CHANNEL
area Y x y = rectangle (x * TILE + BLOCK) (y * TILE) CHANNEL BLOCK
