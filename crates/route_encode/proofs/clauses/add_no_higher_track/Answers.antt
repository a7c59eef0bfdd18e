use Rattle.std.proofs.Common.{◌+◌, ◌-◌, ℕ, List, [], ◌∷◌, arith, sym, subst}
use Rattle.std.proofs.lemmas.List.Concat.{flat_map_single}
use Rattle.sat_clause.specs.Literal.{Clause}
use Rattle.route_encode.specs.Adding.{Adds, HasRoom}
use Rattle.route_encode.specs.Encoding.{above, not_both}
use Rattle.route_encode.proofs.AddLemmas.{range-more, range-room}
use Rattle.route_encode.proofs.clauses.add_no_higher_track.Goals as goal

pub add_clause-requires-clause-room : goal.add_clause-requires-clause-room
add_clause-requires-clause-room c =
    let g : ℕ → List Clause =
    λ u. not_both c.args.variables.width c.args.slot c.args.track c.args.slot u ∷ [] in
    let room =
    subst (HasRoom c.args.formula.now)
    (sym (flat_map_single
    (λ u. not_both c.args.variables.width c.args.slot c.args.track c.args.slot u)
    (above c.args.track c.args.variables.width))) c.requires.room in
    rw (c.lacks-lower.ensures.value, c.lacks.ensures.value)
    (range-room g (c.args.track + 1)
    (c.args.variables.width - c.args.track - 1) c.loop-higher.higher (omega arith)
    (omega arith) _ _ room c.loop-higher.invariant)

pub loop-higher-preserved : goal.loop-higher-preserved
loop-higher-preserved c =
    let g : ℕ → List Clause =
    λ u. not_both c.args.variables.width c.args.slot c.args.track c.args.slot u ∷ [] in
    let added : Adds c.loop-higher.formula (g c.loop-higher.higher) c.add_clause.new.formula =
    rw (c.lacks-lower.ensures.value, c.lacks.ensures.value) at c.add_clause.ensures in
    range-more g (c.args.track + 1) (c.args.variables.width - c.args.track - 1) c.loop-higher.higher
    (omega arith) (omega arith) _ _ _ c.loop-higher.invariant added
