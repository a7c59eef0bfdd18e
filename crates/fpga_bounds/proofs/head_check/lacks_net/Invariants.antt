-- what is lacking is lacking of the nets ahead
use Rattle.std.proofs.Common.{◌≡◌, drop, List}
use Rattle.std.specs.List.{list_any}
use Rattle.fpga_types.specs.declared.route.RouteNet.{RouteNet}
use Rattle.fpga_bounds.specs.Heads.{lacks_line}
use Rattle.fpga_bounds.specs.NetTable.{HasNetLines}
use Rattle.fpga_bounds.proofs.head_check.lacks_net.Given as goal

abbrev pub invariant-loop-net : goal.invariant-loop-net
invariant-loop-net l = record {
  items : l.net-items ≡ l.names;
  ahead : (lines : List RouteNet) → HasNetLines l.names l.marks lines
      → list_any (lacks_line lines) l.names
      ≡ list_any (lacks_line lines) (drop l.net-index l.names);
}
