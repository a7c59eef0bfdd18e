-- the wires so far are reached
use Rattle.std.proofs.Common.{◌+◌, take}
use Rattle.std.specs.Prelude.{All}
use Rattle.route_reach.specs.Growth.{Grows, IsSpreadTo}
use Rattle.route_reach.specs.ModelNets.{net_of}
use Rattle.route_reach.proofs.growing.ModelNet.spread_wire.Given as goal

abbrev pub invariant-loop-place : goal.invariant-loop-place
invariant-loop-place l = record {
  grows : Grows (net_of l.self) (l.joins + 1) l.initial.tree l.tree l.next.items;
  spread : All (IsSpreadTo (net_of l.self) l.tree (l.joins + 1)) (take l.place-index l.place-items);
}
