use Rattle.std.proofs.Common.{◌≡◌, ◌+◌, ◌-◌, ◌*◌, ◌<◌, ℕ, true, sym, ap, ◌∙◌, length, arith}
use Rattle.std.specs.Prelude.{slice_get}
use Rattle.route_encode.specs.Said.{says}
use Rattle.route_reach.specs.ModelNets.{net_of}
use Rattle.route_reach.specs.Modelled.{ModelOf, NetOf, slots_in_model}
use Rattle.route_reach.proofs.GrowthLemmas.{Begins, begin-with}
use Rattle.route_reach.proofs.growing.ModelNet.begin_wire.Goals as goal

begins : (c : goal.In_ok-reach) → Begins (net_of c.args.self.now) c.args.self.now.is
    c.args.tree.now c.reach.new.self c.reach.new.level.items
    ((c.args.slot - c.args.self.now.first) * c.args.self.now.model.now.width + c.args.track)
begins c =
    let n : NetOf = net_of c.args.self.now in
    let m : ModelOf = n.model in
    let is = c.args.self.now.is in
    let low : c.args.slot < length (slots_in_model m) = omega (arith, c.requires.slot, is.within) in
    let own = (is.stretch c.args.slot low).1 (c.requires.slot.0, c.requires.slot.1) in
    let used : says m.values m.width c.args.slot c.args.track ≡ true =
    rw c.width-width.ensures at (sym c.is_used.ensures ∙ c.if-not-is_used.false) in
    begin-with n is c.args.tree.now c.reach.new.self c.args.level.now.items
    c.reach.new.level.items c.args.slot c.args.track
    ((c.args.slot - n.first) * c.width-width.result + c.args.track) c.in-Some.line
    c.requires.grown c.requires.slot.0 c.requires.slot.1 c.requires.track used
    (c.in-Some.ensures.begins n.net (ap (slice_get m.problem.route.nets) own ∙ is.here))
    (ap (λ (w : ℕ). (c.args.slot - n.first) * w + c.args.track) c.width-width.ensures)
    c.in_ok-reach.ensures.tree c.in_ok-reach.ensures.level

pub returns-clause-grown : goal.returns-clause-grown
returns-clause-grown c = (begins c).grows

pub returns-clause-begun : goal.returns-clause-begun
returns-clause-begun c = (begins c).begun
