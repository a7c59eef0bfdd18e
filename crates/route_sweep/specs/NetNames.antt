-- The nets of a netlist and those of a route by name.
use Rattle.std.specs.Prelude.{ℕ, [], List, slice_get}
use Rattle.std.specs.Option.{option_map_or}
use Rattle.desk_io.specs.Files.{Bytes}
use Rattle.fpga_types.specs.declared.netlist.Net.{Net}
use Rattle.fpga_types.specs.declared.netlist.Netlist.{Netlist}
use Rattle.fpga_types.specs.declared.route.RouteNet.{RouteNet}
use Rattle.fpga_types.specs.declared.route.RouteText.{RouteText}

-- the name of the net with this number
abbrev pub net_name : Netlist → (number : ℕ) → Bytes
net_name netlist number =
    option_map_or (λ (net : Net). net.name) (slice_get netlist.nets number) []

-- the name of a net by its position among those of a route
abbrev pub name_at : RouteText → (position : ℕ) → Bytes
name_at route position =
    option_map_or (λ (net : RouteNet). net.name) (slice_get route.nets position) []
