use Rattle.std.proofs.Common.{◌≡◌, ◌+◌, ◌-◌, ◌*◌, ◌<◌, ℕ, false, sym, ◌∙◌, arith}
use Rattle.route_reach.specs.ModelNets.{net_of}
use Rattle.route_reach.specs.Modelled.{NetOf, is_begun}
use Rattle.route_reach.proofs.GrowthLemmas.{begun-far, begun-kept, begun-next, begun-row}
use Rattle.route_reach.proofs.TreeLemmas.{grows-none, grows-twice}
use Rattle.route_reach.proofs.growing.ModelNet.begin_slot.Goals as goal

pub loop-track-init : goal.loop-track-init
loop-track-init c = record {
  grows = grows-none (net_of c.args.self.now) 0 c.args.tree.now c.args.level.now.items
      c.requires.grown;
  begun = λ k low high begins. absurd (omega (arith, low, high));
}

pub loop-track-preserved-then-not-row-track : goal.loop-track-preserved-then-not-row-track
loop-track-preserved-then-not-row-track c =
    let n : NetOf = net_of c.args.self.now in
    let is = c.args.self.now.is in
    let t : ℕ = c.loop-track.track in
    let inside : t < n.model.width =
    omega (arith, c.loop-track-test.true, c.width-track-end.ensures) in
    let far : is_begun n.model c.args.slot t ≡ false =
    sym (c.source_row-row.ensures t) ∙ c.if-not-row-track.true in
    record {
      grows = c.loop-track.invariant.grows;
      begun = begun-next n is c.loop-track.tree ((c.args.slot - n.first) * n.model.width) t
          c.loop-track.invariant.begun
          (begun-far n is c.loop-track.tree c.args.slot t c.requires.slot.0 c.requires.slot.1
          inside far);
    }

pub loop-track-preserved : goal.loop-track-preserved
loop-track-preserved c =
    let n : NetOf = net_of c.args.self.now in
    let is = c.args.self.now.is in
    let t : ℕ = c.loop-track.track in
    let from : ℕ = (c.args.slot - n.first) * n.model.width in
    let grown = c.in_ok-begin_wire.ensures.grown in
    record {
      grows = grows-twice n 0 c.args.tree.now c.loop-track.tree c.begin_wire.new.tree
          c.loop-track.level.items c.begin_wire.new.level.items c.loop-track.invariant.grows grown;
      begun = begun-next n is c.begin_wire.new.tree from t
          (begun-kept n is c.loop-track.tree c.begin_wire.new.tree from (from + t) grown.keeps
          c.loop-track.invariant.begun) c.in_ok-begin_wire.ensures.begun;
    }

pub returns-clause-begun : goal.returns-clause-begun
returns-clause-begun c =
    begun-row (net_of c.args.self.now) c.args.self.now.is c.loop-track.tree c.args.slot
    c.loop-track.track c.requires.slot.0
    (omega (arith, c.loop-track-test.false, c.width-track-end.ensures))
    c.loop-track.invariant.begun
