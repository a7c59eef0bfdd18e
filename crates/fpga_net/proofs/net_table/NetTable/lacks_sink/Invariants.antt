-- no net so far does
use Rattle.std.proofs.Common.{◌≡◌, drop}
use Rattle.std.specs.List.{list_any}
use Rattle.fpga_net.specs.Entries.{lacks_sink}
use Rattle.fpga_net.proofs.net_table.NetTable.lacks_sink.Given as goal

abbrev pub invariant-loop-net : goal.invariant-loop-net
invariant-loop-net l = record {
  same : l.net-items ≡ l.self;
  rest : list_any lacks_sink (drop l.net-index l.net-items) ≡ list_any lacks_sink l.net-items;
}
