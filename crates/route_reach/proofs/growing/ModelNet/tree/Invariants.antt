-- the tree has grown to so many joins
use Rattle.route_reach.specs.Growth.{IsGrown}
use Rattle.route_reach.proofs.GrowthLemmas.{IsSpread}
use Rattle.route_reach.specs.ModelNets.{net_of}
use Rattle.route_reach.proofs.growing.ModelNet.tree.Given as goal

abbrev pub invariant-loop-joins : goal.invariant-loop-joins
invariant-loop-joins l = record {
  grown : IsGrown (net_of l.self) l.joins l.tree l.level.items;
  spread : IsSpread (net_of l.self) l.self.is l.tree l.joins;
}
