-- What a search finds.
use Rattle.std.specs.Prelude.{ℕ, List, All}
use Rattle.fpga_types.specs.Placed.{IsWire}
use Rattle.fpga_types.specs.Size.{Size}
use Rattle.route_negotiate.specs.declared.routing.NetPaths.{NetPaths}

-- each wire of each net is one of the array with so many tracks
abbrev pub AreWithin : Size → (width : ℕ) → List NetPaths → Type 0
AreWithin grid width nets = All (λ (net : NetPaths). All (IsWire grid width) net.wires.items) nets
