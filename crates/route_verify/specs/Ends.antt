-- What is known of a name: the ends of the net of this name, or that there is none.
use Rattle.std.specs.Prelude.{◌≡◌, Option, None, Some}
use Rattle.fpga_bounds.specs.NetEnds.{NamedNet}
use Rattle.fpga_types.specs.Terminals.{net_named}

-- these are the ends of the net of this name, or the netlist has no such net
abbrev pub HasEnds : NamedNet → Option NamedNet → Type 0
HasEnds net (Some ends) = ends ≡ net
HasEnds net None = net_named net.problem net.name ≡ None
