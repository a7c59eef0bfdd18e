use Rattle.std.proofs.Common.{◌≡◌, ℕ, arith, subst}
use Rattle.std.specs.Prelude.{flat_map}
use Rattle.route_encode.specs.Adding.{Adds}
use Rattle.route_encode.specs.Encoding.{below, one_track}
use Rattle.route_encode.proofs.AddLemmas.{below-more, below-room}
use Rattle.route_encode.proofs.clauses.add_one_tracks.Goals as goal

pub add_one_track-requires-clause-room : goal.add_one_track-requires-clause-room
add_one_track-requires-clause-room c =
    below-room (one_track c.args.variables.width) c.args.variables.slots c.loop-slot.slot
    (omega arith) _ _ c.requires.room c.loop-slot.invariant

pub loop-slot-preserved : goal.loop-slot-preserved
loop-slot-preserved c =
    below-more (one_track c.args.variables.width) c.args.variables.slots c.loop-slot.slot
    (omega arith) _ _ _ c.loop-slot.invariant c.add_one_track.ensures

pub returns : goal.returns
returns c =
    let end : c.loop-slot.slot ≡ c.args.variables.slots = omega arith in
    subst (λ (n : ℕ). Adds c.args.formula.now
    (flat_map (one_track c.args.variables.width)
    (below n)) c.loop-slot.formula) end c.loop-slot.invariant
