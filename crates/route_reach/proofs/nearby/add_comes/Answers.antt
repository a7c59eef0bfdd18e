use Rattle.std.proofs.Common.{◌≡◌, ◌∙◌, ℕ, [], ◌∷◌, arith, sym, subst}
use Rattle.std.specs.Prelude.{flat_map}
use Rattle.std.proofs.lemmas.List.Concat.{flat_map_single}
use Rattle.sat_clause.specs.Literal.{Clause}
use Rattle.route_encode.specs.Adding.{Adds, HasRoom}
use Rattle.route_encode.specs.Encoding.{below}
use Rattle.route_encode.proofs.AddLemmas.{below-more, below-room}
use Rattle.route_reach.specs.WireClauses.{comes_clause}
use Rattle.route_reach.proofs.nearby.add_comes.Goals as goal

pub add_clause-requires-clause-room : goal.add_clause-requires-clause-room
add_clause-requires-clause-room c =
    let one : ℕ → Clause = comes_clause c.args.variables.wires c.args.variables.reach c.args.wire
    c.args.beside.now in
    let room = subst (HasRoom c.args.formula.now)
    (sym (flat_map_single one (below c.args.variables.reach))) c.requires.room in
    let is : c.as_slice.result.now ≡ one c.loop-joins.joins =
    c.as_slice.ensures ∙ c.fill_comes.ensures.clause in
    subst (λ (clause : Clause). HasRoom c.loop-joins.formula (clause ∷ [])) (sym is)
    (below-room (λ d. one d ∷ []) c.args.variables.reach c.loop-joins.joins (omega arith) _ _
    room c.loop-joins.invariant)

pub loop-joins-preserved : goal.loop-joins-preserved
loop-joins-preserved c =
    let one : ℕ → Clause = comes_clause c.args.variables.wires c.args.variables.reach c.args.wire
    c.args.beside.now in
    let is : c.as_slice.result.now ≡ one c.loop-joins.joins =
    c.as_slice.ensures ∙ c.fill_comes.ensures.clause in
    let added : Adds c.loop-joins.formula (one c.loop-joins.joins ∷ []) c.add_clause.new.formula =
    subst (λ (clause : Clause). Adds c.loop-joins.formula (clause ∷ []) c.add_clause.new.formula) is
    c.add_clause.ensures in
    below-more (λ d. one d ∷ []) c.args.variables.reach c.loop-joins.joins (omega arith) _ _ _
    c.loop-joins.invariant added

pub returns : goal.returns
returns c =
    let one : ℕ → Clause = comes_clause c.args.variables.wires c.args.variables.reach c.args.wire
    c.args.beside.now in
    let end : c.loop-joins.joins ≡ c.args.variables.reach = omega arith in
    subst (λ cs. Adds c.args.formula.now cs c.loop-joins.formula)
    (flat_map_single one (below c.args.variables.reach))
    (subst (λ (n : ℕ). Adds c.args.formula.now (flat_map (λ d. one d ∷ []) (below n))
    c.loop-joins.formula) end c.loop-joins.invariant)
