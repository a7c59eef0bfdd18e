use Rattle.std.proofs.Common.{◌≡◌, ◌+◌, ℕ, List, get_or, length, take, refl, ◌∙◌, arith}
use Rattle.list_laws.proofs.FrontParts.{all-front, all-next, all-whole}
use Rattle.list_laws.proofs.Places.{get-there}
use Rattle.route_reach.specs.Growth.{IsSpreadTo}
use Rattle.route_reach.specs.ModelNets.{net_of}
use Rattle.route_reach.specs.Modelled.{NetOf, places_beside}
use Rattle.route_reach.proofs.GrowthLemmas.{all-spread_to, asked, place-in, spread-from}
use Rattle.route_reach.proofs.TreeLemmas.{grows-none, grows-twice, over-kept}
use Rattle.route_reach.proofs.growing.ModelNet.spread_wire.Goals as goal

pub slot-requires : goal.slot-requires
slot-requires c = (asked (net_of c.args.self.now) c.args.self.now.is c.args.tree.now
    c.args.next.now.items (c.args.joins + 1) c.args.joins c.args.wire c.requires.grown
    c.requires.wire).low

pub beside-beside-requires-clause-slot : goal.beside-beside-requires-clause-slot
beside-beside-requires-clause-slot c =
    rw c.slot.ensures (asked (net_of c.args.self.now) c.args.self.now.is c.args.tree.now
    c.args.next.now.items (c.args.joins + 1) c.args.joins c.args.wire c.requires.grown
    c.requires.wire).slot

pub beside-beside-requires-clause-track : goal.beside-beside-requires-clause-track
beside-beside-requires-clause-track c =
    rw c.track.ensures (asked (net_of c.args.self.now) c.args.self.now.is c.args.tree.now
    c.args.next.now.items (c.args.joins + 1) c.args.joins c.args.wire c.requires.grown
    c.requires.wire).track

pub spread_to-requires-clause-wire : goal.spread_to-requires-clause-wire
spread_to-requires-clause-wire c =
    over-kept c.args.tree.now c.loop-place.tree c.args.joins c.args.wire
    c.loop-place.invariant.grows.keeps c.requires.wire

pub spread_to-requires-clause-place : goal.spread_to-requires-clause-place
spread_to-requires-clause-place c =
    place-in (net_of c.args.self.now) c.args.self.now.is c.args.tree.now c.loop-place.tree
    c.args.next.now.items c.loop-place.next.items c.as_slice-place-items.result.now
    c.beside-beside.result.items (c.args.joins + 1) c.slot.result c.track.result
    c.loop-place.place-index c.args.wire c.requires.grown c.loop-place.invariant.grows.grown
    c.as_slice-place-items.ensures.value c.beside-beside.ensures.listed c.slot.ensures
    c.track.ensures c.loop-place-test.true

pub spread_to-requires-clause-grown : goal.spread_to-requires-clause-grown
spread_to-requires-clause-grown c = c.loop-place.invariant.grows.grown

pub loop-place-init : goal.loop-place-init
loop-place-init c = record {
  grows = grows-none (net_of c.args.self.now) (c.args.joins + 1) c.args.tree.now
      c.args.next.now.items c.requires.grown;
  spread = all-front (IsSpreadTo (net_of c.args.self.now) c.args.tree.now (c.args.joins + 1))
      c.as_slice-place-items.result.now;
}

pub loop-place-preserved : goal.loop-place-preserved
loop-place-preserved c =
    let n : NetOf = net_of c.args.self.now in
    let items : List ℕ = c.as_slice-place-items.result.now in
    let i : ℕ = c.loop-place.place-index in
    let grown = c.in_ok-spread_to.ensures.grown in
    record {
      grows = grows-twice n (c.args.joins + 1) c.args.tree.now c.loop-place.tree
          c.spread_to.new.tree c.loop-place.next.items c.spread_to.new.next.items
          c.loop-place.invariant.grows grown;
      spread = all-next (IsSpreadTo n c.spread_to.new.tree (c.args.joins + 1)) items i
          (get_or items i 0) (get-there items i (get_or items i 0) 0 c.loop-place-test.true refl)
          (all-spread_to n c.args.self.now.is c.loop-place.tree c.spread_to.new.tree
          (c.args.joins + 1) (take i items) grown.keeps c.loop-place.invariant.spread)
          c.in_ok-spread_to.ensures.spread;
    }

pub returns-clause-grown : goal.returns-clause-grown
returns-clause-grown c = c.loop-place.invariant.grows

pub returns-clause-spread : goal.returns-clause-spread
returns-clause-spread c =
    let n : NetOf = net_of c.args.self.now in
    let items : List ℕ = c.as_slice-place-items.result.now in
    let whole : c.loop-place.place-index ≡ length items =
    omega (arith, c.loop-place-test.false, c.loop-place.auto.place-index-end) in
    spread-from n c.args.self.now.is (c.args.joins + 1) c.args.tree.now c.loop-place.tree
    c.args.next.now.items items (c.args.joins + 1) c.args.wire c.requires.grown
    (c.as_slice-place-items.ensures.value ∙ c.beside-beside.ensures.listed
    ∙ (λ j. places_beside n.model (c.slot.ensures j) (c.track.ensures j)))
    (all-whole (IsSpreadTo n c.loop-place.tree (c.args.joins + 1)) items
    c.loop-place.place-index whole c.loop-place.invariant.spread)
