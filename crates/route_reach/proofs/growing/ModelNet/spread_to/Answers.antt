use Rattle.std.proofs.Common.{◌+◌, ◌-◌, ◌*◌, ℕ, sym, ap, ◌∙◌}
use Rattle.list_laws.proofs.Members.{In-contains}
use Rattle.route_reach.specs.ModelNets.{net_of}
use Rattle.route_reach.specs.Modelled.{NetOf, places_beside}
use Rattle.route_reach.specs.Tree.{tree_slot, tree_track}
use Rattle.route_reach.proofs.GrowthLemmas.{Spreads, near-wire, spread-with}
use Rattle.route_reach.proofs.growing.ModelNet.spread_to.Goals as goal

pub is_used-requires : goal.is_used-requires
is_used-requires c =
    (near-wire (net_of c.args.self.now) c.args.self.now.is c.args.tree.now c.args.next.now.items
    c.args.joins c.args.wire c.args.place c.requires.grown c.requires.joins c.requires.wire
    (In-contains (places_beside c.args.self.now.model.now
    (tree_slot c.args.tree.now c.args.wire) (tree_track c.args.tree.now c.args.wire))
    c.args.place c.requires.place)).inside

spreads : (c : goal.In_ok-reach) → Spreads (net_of c.args.self.now) c.args.self.now.is
    (c.args.joins + 1) c.args.tree.now c.reach.new.self c.reach.new.level.items c.args.place
spreads c =
    let n : NetOf = net_of c.args.self.now in
    spread-with n c.args.self.now.is c.args.tree.now c.reach.new.self c.args.next.now.items
    c.reach.new.level.items c.args.joins c.args.wire c.args.place
    (c.args.place - n.first * c.width.result) c.requires.grown c.requires.joins c.requires.wire
    c.requires.place (sym c.is_used.ensures ∙ c.if-not-is_used.false)
    (ap (λ (w : ℕ). c.args.place - n.first * w) c.width.ensures)
    c.in_ok-reach.ensures.tree c.in_ok-reach.ensures.level

pub overflow_sub-other : goal.overflow_sub-other
overflow_sub-other c =
    rw c.width.ensures (near-wire (net_of c.args.self.now) c.args.self.now.is c.args.tree.now
    c.args.next.now.items c.args.joins c.args.wire c.args.place c.requires.grown c.requires.joins
    c.requires.wire (In-contains (places_beside c.args.self.now.model.now
    (tree_slot c.args.tree.now c.args.wire) (tree_track c.args.tree.now c.args.wire))
    c.args.place c.requires.place)).above

pub reach-requires : goal.reach-requires
reach-requires c =
    let near = near-wire (net_of c.args.self.now) c.args.self.now.is c.args.tree.now
    c.args.next.now.items c.args.joins c.args.wire c.args.place c.requires.grown c.requires.joins
    c.requires.wire (In-contains (places_beside c.args.self.now.model.now
    (tree_slot c.args.tree.now c.args.wire) (tree_track c.args.tree.now c.args.wire))
    c.args.place c.requires.place) in
    rw c.width.ensures (near.next (sym c.is_used.ensures ∙ c.if-not-is_used.false)).low

pub returns-clause-grown : goal.returns-clause-grown
returns-clause-grown c = (spreads c).grows

pub returns-clause-spread : goal.returns-clause-spread
returns-clause-spread c = (spreads c).spread
