use Rattle.std.proofs.Common.{ℕ, ◌+◌, [], ◌∷◌, arith, sym, subst}
use Rattle.std.proofs.lemmas.List.Concat.{flat_map_single}
use Rattle.sat_clause.specs.Literal.{Clause}
use Rattle.route_encode.specs.Adding.{Adds, HasRoom}
use Rattle.route_encode.specs.Encoding.{below}
use Rattle.route_encode.proofs.AddLemmas.{below-more, below-room}
use Rattle.route_reach.specs.WireClauses.{wire_reached, wire_unreached}
use Rattle.route_reach.proofs.each_wire.add_wire_stays.Goals as goal

pub add_clause-requires-clause-room : goal.add_clause-requires-clause-room
add_clause-requires-clause-room c =
    let one : ℕ → Clause = λ d. wire_unreached c.args.variables.wires c.args.variables.reach
    c.args.wire d ∷ wire_reached c.args.variables.wires c.args.variables.reach c.args.wire (d + 1)
    ∷ [] in
    let room = subst (HasRoom c.args.formula.now)
    (sym (flat_map_single one (below c.args.variables.reach))) c.requires.room in
    rw (c.unreached.ensures.value, c.reached-later.ensures.value)
    (below-room (λ d. one d ∷ []) c.args.variables.reach c.loop-joins.joins (omega arith) _ _
    room c.loop-joins.invariant)

pub loop-joins-preserved : goal.loop-joins-preserved
loop-joins-preserved c =
    let one : ℕ → Clause = λ d. wire_unreached c.args.variables.wires c.args.variables.reach
    c.args.wire d ∷ wire_reached c.args.variables.wires c.args.variables.reach c.args.wire (d + 1)
    ∷ [] in
    let added : Adds c.loop-joins.formula (one c.loop-joins.joins ∷ []) c.add_clause.new.formula =
    rw (c.unreached.ensures.value, c.reached-later.ensures.value) at c.add_clause.ensures in
    below-more (λ d. one d ∷ []) c.args.variables.reach c.loop-joins.joins (omega arith) _ _ _
    c.loop-joins.invariant added
