use Rattle.std.proofs.Common.{◌≡◌, ℕ, arith, subst}
use Rattle.std.specs.Prelude.{flat_map}
use Rattle.route_encode.specs.Adding.{Adds}
use Rattle.route_encode.specs.Encoding.{below, no_higher_track}
use Rattle.route_encode.proofs.AddLemmas.{below-more, below-room}
use Rattle.route_encode.proofs.clauses.add_one_track.Goals as goal

pub add_no_higher_track-requires-clause-room : goal.add_no_higher_track-requires-clause-room
add_no_higher_track-requires-clause-room c =
    below-room
    (no_higher_track c.args.variables.width c.args.slot) c.args.variables.width
    c.loop-track.track (omega arith) _ _ c.requires.room c.loop-track.invariant

pub loop-track-preserved : goal.loop-track-preserved
loop-track-preserved c =
    below-more
    (no_higher_track c.args.variables.width c.args.slot) c.args.variables.width
    c.loop-track.track (omega arith) _ _ _ c.loop-track.invariant c.add_no_higher_track.ensures

pub returns : goal.returns
returns c =
    let end : c.loop-track.track ≡ c.args.variables.width = omega arith in
    subst (λ (n : ℕ). Adds c.args.formula.now
    (flat_map (no_higher_track c.args.variables.width c.args.slot)
    (below n)) c.loop-track.formula) end c.loop-track.invariant
