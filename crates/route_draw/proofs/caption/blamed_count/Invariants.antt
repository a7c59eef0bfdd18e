-- the nets so far were counted, no more than there are
use Rattle.std.proofs.Common.{◌≡◌, ◌≤◌, length, take}
use Rattle.std.specs.Prelude.{filter}
use Rattle.fpga_types.specs.declared.netlist.Net.{Net}
use Rattle.route_draw.specs.Blamed.{is_blamed}
use Rattle.route_draw.proofs.caption.blamed_count.Given as goal

abbrev pub invariant-loop-net : goal.invariant-loop-net
invariant-loop-net l = record {
  few : l.count ≤ l.net-index;
  counted : l.count
      ≡ length (filter (λ (net : Net). is_blamed l.names net.name) (take l.net-index l.nets));
}
