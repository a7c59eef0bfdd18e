-- the wires of the tracks so far that begin are reached
use Rattle.std.specs.Prelude.{◌+◌, ◌-◌, ◌*◌}
use Rattle.route_reach.specs.Growth.{Grows, HasBegun}
use Rattle.route_reach.specs.ModelNets.{net_of}
use Rattle.route_reach.proofs.growing.ModelNet.begin_slot.Given as goal

abbrev pub invariant-loop-track : goal.invariant-loop-track
invariant-loop-track l = record {
  grows : Grows (net_of l.self) 0 l.initial.tree l.tree l.level.items;
  begun : HasBegun (net_of l.self) l.tree ((l.slot - l.self.first) * l.self.model.now.width)
      ((l.slot - l.self.first) * l.self.model.now.width + l.track);
}
