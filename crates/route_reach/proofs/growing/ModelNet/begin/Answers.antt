use Rattle.std.proofs.Common.{◌+◌, ◌-◌, ◌*◌, ℕ}
use Rattle.route_reach.specs.ModelNets.{net_of}
use Rattle.route_reach.specs.Modelled.{NetOf}
use Rattle.route_reach.proofs.GrowthLemmas.{begun-both, begun-kept, begun-none, begun-whole}
use Rattle.route_reach.proofs.TreeLemmas.{grows-none, grows-twice}
use Rattle.route_reach.proofs.growing.ModelNet.begin.Goals as goal

pub loop-slot-init : goal.loop-slot-init
loop-slot-init c = record {
  grows = grows-none (net_of c.args.self.now) 0 c.args.tree.now c.args.level.now.items
      c.requires;
  begun = begun-none (net_of c.args.self.now) c.args.self.now.is c.args.tree.now
      c.args.self.now.first c.args.self.now.model.now.width;
}

pub loop-slot-preserved : goal.loop-slot-preserved
loop-slot-preserved c =
    let n : NetOf = net_of c.args.self.now in
    let is = c.args.self.now.is in
    let grown = c.in_ok-begin_slot.ensures.grown in
    let mid : ℕ = (c.loop-slot.slot - n.first) * n.model.width in
    record {
      grows = grows-twice n 0 c.args.tree.now c.loop-slot.tree c.begin_slot.new.tree
          c.loop-slot.level.items c.begin_slot.new.level.items c.loop-slot.invariant.grows grown;
      begun = begun-both n is c.begin_slot.new.tree 0 mid
          ((c.loop-slot.slot + 1 - n.first) * n.model.width)
          (begun-kept n is c.loop-slot.tree c.begin_slot.new.tree 0 mid grown.keeps
          c.loop-slot.invariant.begun) c.in_ok-begin_slot.ensures.begun;
    }

pub returns-clause-begun : goal.returns-clause-begun
returns-clause-begun c =
    begun-whole (net_of c.args.self.now) c.args.self.now.is c.loop-slot.tree c.loop-slot.slot
    c.loop-slot-test.false c.loop-slot.invariant.begun
