use Rattle.std.proofs.Common.{◌≡◌, ◌+◌, ℕ, List, get_or, length, take, refl, arith}
use Rattle.list_laws.proofs.FrontParts.{all-front, all-next, all-whole}
use Rattle.list_laws.proofs.Members.{In-all, In-get}
use Rattle.list_laws.proofs.Places.{get-there}
use Rattle.route_reach.specs.Growth.{IsReachedOver, IsSpreadFrom}
use Rattle.route_reach.specs.ModelNets.{net_of}
use Rattle.route_reach.specs.Modelled.{NetOf}
use Rattle.route_reach.proofs.GrowthLemmas.{all-spread}
use Rattle.route_reach.proofs.TreeLemmas.{grows-none, grows-twice, over-kept}
use Rattle.route_reach.proofs.growing.ModelNet.spread.Goals as goal

pub spread_wire-requires-clause-wire : goal.spread_wire-requires-clause-wire
spread_wire-requires-clause-wire c =
    let level : List ℕ = c.args.level.now in
    let wire : ℕ = get_or level c.loop-wire.wire-index 0 in
    over-kept c.args.tree.now c.loop-wire.tree c.args.joins wire c.loop-wire.invariant.grows.keeps
    (In-all (IsReachedOver c.args.tree.now c.args.joins) level wire c.requires.level
    (In-get level c.loop-wire.wire-index 0 c.loop-wire-test.true))

pub spread_wire-requires-clause-grown : goal.spread_wire-requires-clause-grown
spread_wire-requires-clause-grown c = c.loop-wire.invariant.grows.grown

pub loop-wire-init : goal.loop-wire-init
loop-wire-init c = record {
  grows = grows-none (net_of c.args.self.now) (c.args.joins + 1) c.args.tree.now
      c.args.next.now.items c.requires.grown;
  spread = all-front (IsSpreadFrom (net_of c.args.self.now) c.args.tree.now (c.args.joins + 1))
      c.args.level.now;
}

pub loop-wire-preserved : goal.loop-wire-preserved
loop-wire-preserved c =
    let n : NetOf = net_of c.args.self.now in
    let level : List ℕ = c.args.level.now in
    let i : ℕ = c.loop-wire.wire-index in
    let grown = c.in_ok-spread_wire.ensures.grown in
    record {
      grows = grows-twice n (c.args.joins + 1) c.args.tree.now c.loop-wire.tree
          c.spread_wire.new.tree c.loop-wire.next.items c.spread_wire.new.next.items
          c.loop-wire.invariant.grows grown;
      spread = all-next (IsSpreadFrom n c.spread_wire.new.tree (c.args.joins + 1)) level i
          (get_or level i 0) (get-there level i (get_or level i 0) 0 c.loop-wire-test.true refl)
          (all-spread n c.args.self.now.is c.loop-wire.tree c.spread_wire.new.tree
          (c.args.joins + 1) (take i level) grown.keeps c.loop-wire.invariant.spread)
          c.in_ok-spread_wire.ensures.spread;
    }

pub returns-clause-grown : goal.returns-clause-grown
returns-clause-grown c = c.loop-wire.invariant.grows

pub returns-clause-spread : goal.returns-clause-spread
returns-clause-spread c =
    let n : NetOf = net_of c.args.self.now in
    let level : List ℕ = c.args.level.now in
    let whole : c.loop-wire.wire-index ≡ length level =
    omega (arith, c.loop-wire-test.false, c.loop-wire.auto.wire-index-end) in
    all-whole (IsSpreadFrom n c.loop-wire.tree (c.args.joins + 1)) level c.loop-wire.wire-index
    whole c.loop-wire.invariant.spread
