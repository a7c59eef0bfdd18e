use Rattle.std.proofs.Common.{◌≤◌, ◌*◌, [], ◌∷◌, arith, sym, subst}
use Rattle.std.proofs.lemmas.List.Concat.{flat_map_single}
use Rattle.route_encode.specs.Adding.{Adds, HasRoom}
use Rattle.route_encode.specs.Encoding.{below, some_track}
use Rattle.route_encode.proofs.AddLemmas.{below-more, below-room}
use Rattle.route_encode.proofs.LiteralLemmas.{some_track-within}
use Rattle.route_encode.proofs.clauses.add_some_tracks.Goals as goal

pub add_clause-requires-clause-within : goal.add_clause-requires-clause-within
add_clause-requires-clause-within c =
    let vars : c.args.variables.slots * c.args.variables.width ≤ c.loop-slot.formula.cnf.vars =
    rw (c.loop-slot.invariant.vars) c.requires.vars in
    rw c.fill_some_track.ensures
    (some_track-within c.args.variables.slots c.args.variables.width c.loop-slot.slot
    c.loop-slot.formula.cnf.vars (omega arith) vars)

pub add_clause-requires-clause-room : goal.add_clause-requires-clause-room
add_clause-requires-clause-room c =
    let room =
    subst (HasRoom c.args.formula.now)
    (sym (flat_map_single (some_track c.args.variables.width)
    (below c.args.variables.slots))) c.requires.room in
    rw c.fill_some_track.ensures
    (below-room
    (λ s. some_track c.args.variables.width s ∷ []) c.args.variables.slots c.loop-slot.slot
    (omega arith) _ _ room c.loop-slot.invariant)

pub loop-slot-preserved : goal.loop-slot-preserved
loop-slot-preserved c =
    let added : Adds c.loop-slot.formula (some_track c.args.variables.width c.loop-slot.slot
    ∷ []) c.add_clause.new.formula = rw c.fill_some_track.ensures at c.add_clause.ensures in
    below-more
    (λ s. some_track c.args.variables.width s ∷ []) c.args.variables.slots c.loop-slot.slot
    (omega arith) _ _ _ c.loop-slot.invariant added
