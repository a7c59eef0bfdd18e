-- Whether a net crosses a cut, by the sides on which its terminals lie.
use Rattle.std.specs.Prelude.{Bool, false, ◌&&◌, ◌||◌}
use Rattle.std.specs.Option.{option_map_or}
use Rattle.fpga_types.specs.Problem.{PlacedNetlist}
use Rattle.fpga_types.specs.Terminals.{terminal_in}
use Rattle.fpga_types.specs.declared.netlist.PinRef.{PinRef}
use Rattle.fpga_types.specs.declared.problem.Terminal.{Terminal}
use Rattle.route_bound.specs.Corners.{Corners, has_corner_in, has_corner_out}
use Rattle.route_bound.specs.Reaches.{all_along, reach_of}
use Rattle.route_bound.specs.declared.range.Standing.{Standing}
use Rattle.route_bound.specs.declared.reach.Reach.{Reach}

-- on which sides of the cut all cells lie that are reached
abbrev pub standing_of : Corners → Reach → Standing
standing_of corners reach = record {
  inside = all_along (has_corner_in corners) reach;
  outside = all_along (has_corner_out corners) reach;
}

-- one of the two lies inside, and one of them outside: both may be the same one, at the cut alone
abbrev pub lie_across : (a b : Standing) → Bool
lie_across a b = (a.inside || b.inside) && (a.outside || b.outside)

-- the terminal lies across the cut from a driver that lies so
abbrev pub is_across : PlacedNetlist → Corners → Standing → Terminal → Bool
is_across placed corners driver at = lie_across driver
    (standing_of corners (reach_of placed.arch placed.placement.grid at))

-- the sink at the pin is there, and lies across the cut from a driver that lies so
abbrev pub is_sink_across : PlacedNetlist → Corners → Standing → PinRef → Bool
is_sink_across placed corners driver pin =
    option_map_or (is_across placed corners driver) (terminal_in placed pin) false
