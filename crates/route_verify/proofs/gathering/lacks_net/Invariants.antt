-- what is lacking is lacking of the nets ahead
use Rattle.std.proofs.Common.{◌≡◌, drop}
use Rattle.std.specs.List.{list_any}
use Rattle.fpga_bounds.specs.Heads.{lacks_line}
use Rattle.route_verify.proofs.gathering.lacks_net.Given as goal

abbrev pub invariant-loop-net : goal.invariant-loop-net
invariant-loop-net l = record {
  items : l.net-items ≡ l.names;
  ahead : list_any (lacks_line l.heads) l.names
      ≡ list_any (lacks_line l.heads) (drop l.net-index l.names);
}
