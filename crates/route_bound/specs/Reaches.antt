-- The cells that a terminal touches, by its place and the sides of its pins.
use Rattle.std.specs.Prelude.{ℕ, ◌-◌, ◌==◌, nat_le, Bool, false, not, ◌&&◌, ◌||◌, List}
use Rattle.std.specs.List.{list_any}
use Rattle.fpga_types.specs.Fabric.{is_cell}
use Rattle.fpga_types.specs.Size.{Size}
use Rattle.fpga_types.specs.Touching.{has_side, looks_in}
use Rattle.fpga_types.specs.declared.arch.Arch.{Arch}
use Rattle.fpga_types.specs.declared.arch.PinSpec.{PinSpec}
use Rattle.fpga_types.specs.declared.arch.SideSet.{SideSet}
use Rattle.fpga_types.specs.declared.grid.Axis.TheVariants.{X, Y}
use Rattle.fpga_types.specs.declared.grid.Cell.{Cell}
use Rattle.fpga_types.specs.declared.grid.Side.{Side}
use Rattle.fpga_types.specs.declared.grid.Side.TheVariants.{Left, Right, Bottom, Top}
use Rattle.fpga_types.specs.declared.problem.Terminal.{Terminal}
use Rattle.fpga_types.specs.declared.route.Label.{Label}
use Rattle.fpga_types.specs.declared.route.Label.TheVariants.{Class, Pin, Pad, Track}
use Rattle.route_bound.specs.Lying.{Cells}
use Rattle.route_bound.specs.declared.reach.Reach.{Reach}

-- the cell along a side of the place (x,y), where there is one
abbrev pub side_cell : (x y : ℕ) → Side → Cell
side_cell x y Left = record { axis = Y; x = x - 1; y = y }
side_cell x y Right = record { axis = Y; x = x; y = y }
side_cell x y Bottom = record { axis = X; x = x; y = y - 1 }
side_cell x y Top = record { axis = X; x = x; y = y }

-- the place is not at the left or lower end, where that side has none
abbrev pub is_off_end : (x y : ℕ) → Side → Bool
is_off_end x y Left = nat_le 1 x
is_off_end x y Right = nat_le 0 x
is_off_end x y Bottom = nat_le 1 y
is_off_end x y Top = nat_le 0 y

-- a cell of the array lies along the side
abbrev pub has_cell_along : Size → (x y : ℕ) → Side → Bool
has_cell_along grid x y side = is_off_end x y side && is_cell grid (side_cell x y side)

-- the pin is one of the class, takes ordinary nets, and is on the side
abbrev pub is_class_pin_on : (class : ℕ) → Side → PinSpec → Bool
is_class_pin_on class side spec = spec.class == class && not spec.global && has_side spec.sides side

-- the sides that the class has pins on which take ordinary nets
abbrev pub class_sides : List PinSpec → (class : ℕ) → SideSet
class_sides pins class = record {
  left = list_any (is_class_pin_on class Left) pins;
  right = list_any (is_class_pin_on class Right) pins;
  bottom = list_any (is_class_pin_on class Bottom) pins;
  top = list_any (is_class_pin_on class Top) pins;
}

-- the sides of a pad's place that look into the array
abbrev pub pad_sides : Size → (x y : ℕ) → SideSet
pad_sides grid x y = record {
  left = looks_in grid x y Left;
  right = looks_in grid x y Right;
  bottom = looks_in grid x y Bottom;
  top = looks_in grid x y Top;
}

-- the sides that the pins of a terminal are on
abbrev pub terminal_sides : Arch → Size → (x y : ℕ) → Label → (number : ℕ) → SideSet
terminal_sides arch grid x y Class class = class_sides arch.pins class
terminal_sides arch grid x y Pad number = pad_sides grid x y
terminal_sides arch grid x y Pin number =
    record { left = false; right = false; bottom = false; top = false }
terminal_sides arch grid x y Track number =
    record { left = false; right = false; bottom = false; top = false }

-- the place, and those of the sides along which the array has a cell
abbrev pub reach_along : Size → (x y : ℕ) → SideSet → Reach
reach_along grid x y sides = record {
  x = x;
  y = y;
  sides = record {
    left = sides.left && has_cell_along grid x y Left;
    right = sides.right && has_cell_along grid x y Right;
    bottom = sides.bottom && has_cell_along grid x y Bottom;
    top = sides.top && has_cell_along grid x y Top;
  };
}

-- the place of a terminal, and the sides of it along which it touches cells
abbrev pub reach_of : Arch → Size → Terminal → Reach
reach_of arch grid at =
    reach_along grid at.x at.y (terminal_sides arch grid at.x at.y at.label at.number)

-- where the side is one of these, the fact is one
abbrev pub on_side : (has is : Bool) → Bool
on_side has is = not has || is

-- each cell that is reached is in the set
abbrev pub all_along : Cells → Reach → Bool
all_along cells r = (on_side r.sides.left (cells (side_cell r.x r.y Left))
    && on_side r.sides.right (cells (side_cell r.x r.y Right)))
    && (on_side r.sides.bottom (cells (side_cell r.x r.y Bottom))
    && on_side r.sides.top (cells (side_cell r.x r.y Top)))
