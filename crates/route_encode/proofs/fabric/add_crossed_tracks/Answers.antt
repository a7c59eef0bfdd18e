use Rattle.std.proofs.Common.{ℕ, [], ◌∷◌, arith, sym, subst}
use Rattle.std.proofs.lemmas.List.Concat.{flat_map_single}
use Rattle.fpga_graph.specs.Crossing.{crossed_track}
use Rattle.sat_clause.specs.Literal.{Clause}
use Rattle.route_encode.specs.Adding.{Adds, HasRoom}
use Rattle.route_encode.specs.Encoding.{below, has, lacks}
use Rattle.route_encode.proofs.AddLemmas.{below-more, below-room}
use Rattle.route_encode.proofs.fabric.add_crossed_tracks.Goals as goal

pub add_clause-requires-clause-room : goal.add_clause-requires-clause-room
add_clause-requires-clause-room c =
    let one : ℕ → Clause =
    λ t. lacks c.args.variables.width c.args.step.from t
    ∷ has c.args.variables.width c.args.step.to (crossed_track c.args.crossing t) ∷ [] in
    let room =
    subst (HasRoom c.args.formula.now)
    (sym (flat_map_single one (below c.args.variables.width))) c.requires.room in
    rw (c.lacks-first.ensures.value, c.has.ensures.value, c.track.ensures.across)
    (below-room (λ t. one t ∷ []) c.args.variables.width c.loop-track.track
    (omega arith) _ _ room c.loop-track.invariant)

pub loop-track-preserved : goal.loop-track-preserved
loop-track-preserved c =
    let one : ℕ → Clause =
    λ t. lacks c.args.variables.width c.args.step.from t
    ∷ has c.args.variables.width c.args.step.to (crossed_track c.args.crossing t) ∷ [] in
    let added : Adds c.loop-track.formula (one c.loop-track.track ∷ []) c.add_clause.new.formula =
    rw (c.lacks-first.ensures.value, c.has.ensures.value, c.track.ensures.across) at
    c.add_clause.ensures in
    below-more (λ t. one t ∷ []) c.args.variables.width c.loop-track.track
    (omega arith) _ _ _ c.loop-track.invariant added
