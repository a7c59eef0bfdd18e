-- the nets so far are counted
use Rattle.std.proofs.Common.{◌≡◌, length}
use Rattle.route_bound.specs.Lines.{AreCounted}
use Rattle.route_bound.proofs.placed.PlacedNets.count_nets.Given as goal

abbrev pub invariant-loop-net : goal.invariant-loop-net
invariant-loop-net l = record {
  size : length l.counts ≡ length l.initial.counts;
  counted : AreCounted l.self l.kind l.net-index l.counts;
}
