-- the wires near those so far are reached
use Rattle.std.proofs.Common.{◌+◌, take}
use Rattle.std.specs.Prelude.{All}
use Rattle.route_reach.specs.Growth.{Grows, IsSpreadFrom}
use Rattle.route_reach.specs.ModelNets.{net_of}
use Rattle.route_reach.proofs.growing.ModelNet.spread.Given as goal

abbrev pub invariant-loop-wire : goal.invariant-loop-wire
invariant-loop-wire l = record {
  grows : Grows (net_of l.self) (l.joins + 1) l.initial.tree l.tree l.next.items;
  spread : All (IsSpreadFrom (net_of l.self) l.tree (l.joins + 1)) (take l.wire-index l.level);
}
