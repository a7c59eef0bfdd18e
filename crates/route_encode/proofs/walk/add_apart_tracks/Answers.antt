use Rattle.std.proofs.Common.{◌≡◌, ℕ, length, arith, subst}
use Rattle.std.specs.Prelude.{flat_map}
use Rattle.route_encode.specs.Adding.{Adds}
use Rattle.route_encode.specs.Encoding.{below}
use Rattle.route_encode.specs.Rivals.{apart_from_rivals}
use Rattle.route_encode.proofs.AddLemmas.{below-more, below-room}
use Rattle.route_encode.proofs.walk.add_apart_tracks.Goals as goal

pub add_apart_from_rivals-requires-clause-room : goal.add_apart_from_rivals-requires-clause-room
add_apart_from_rivals-requires-clause-room c =
    below-room (apart_from_rivals c.args.variables.width c.args.chains.now)
    (length c.args.chains.now) c.loop-slot.slot
    (omega arith) _ _ c.requires.room c.loop-slot.invariant

pub loop-slot-preserved : goal.loop-slot-preserved
loop-slot-preserved c =
    below-more (apart_from_rivals c.args.variables.width c.args.chains.now)
    (length c.args.chains.now) c.loop-slot.slot
    (omega arith) _ _ _ c.loop-slot.invariant c.add_apart_from_rivals.ensures

pub returns : goal.returns
returns c =
    let end : c.loop-slot.slot ≡ length c.args.chains.now = omega arith in
    subst (λ (n : ℕ). Adds c.args.formula.now
    (flat_map (apart_from_rivals c.args.variables.width c.args.chains.now)
    (below n)) c.loop-slot.formula) end c.loop-slot.invariant
