use Rattle.std.proofs.Common.{ℕ, [], ◌∷◌, arith, sym, subst}
use Rattle.std.proofs.lemmas.List.Concat.{flat_map_single}
use Rattle.sat_clause.specs.Literal.{Clause}
use Rattle.route_encode.specs.Adding.{Adds, HasRoom}
use Rattle.route_encode.specs.Encoding.{below, not_both}
use Rattle.route_encode.proofs.AddLemmas.{below-more, below-room}
use Rattle.route_encode.proofs.clauses.add_apart_track.Goals as goal

pub add_clause-requires-clause-room : goal.add_clause-requires-clause-room
add_clause-requires-clause-room c =
    let one : ℕ → Clause = λ t. not_both c.args.variables.width c.args.lower t c.args.higher t in
    let room =
    subst (HasRoom c.args.formula.now)
    (sym (flat_map_single one (below c.args.variables.width))) c.requires.room in
    rw (c.lacks-first.ensures.value, c.lacks.ensures.value)
    (below-room (λ t. one t ∷ []) c.args.variables.width c.loop-shared.shared
    (omega arith) _ _ room c.loop-shared.invariant)

pub loop-shared-preserved : goal.loop-shared-preserved
loop-shared-preserved c =
    let one : ℕ → Clause = λ t. not_both c.args.variables.width c.args.lower t c.args.higher t in
    let added : Adds c.loop-shared.formula
    (one c.loop-shared.shared ∷ []) c.add_clause.new.formula =
    rw (c.lacks-first.ensures.value, c.lacks.ensures.value) at c.add_clause.ensures in
    below-more (λ t. one t ∷ []) c.args.variables.width c.loop-shared.shared
    (omega arith) _ _ _ c.loop-shared.invariant added
