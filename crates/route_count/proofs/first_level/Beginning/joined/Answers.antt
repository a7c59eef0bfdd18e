use Rattle.std.proofs.Common.{◌<◌, ◌∷◌, [], arith, length, subst, sym}
use Rattle.sat_clause.specs.Literal.{Clause}
use Rattle.route_count.specs.Said.{IsOneOf}
use Rattle.route_count.proofs.first_level.Beginning.joined.Goals as goal

pub lacks-requires-clause-slot : goal.lacks-requires-clause-slot
lacks-requires-clause-slot c =
    let low : c.args.slot < length c.args.self.now.trees.now.roots =
    omega (arith, c.requires.slot, c.args.self.now.nets.each, c.args.self.now.each) in
    let led = c.args.self.now.are_trees.led c.args.slot c.args.lead low c.requires.lead in
    omega (arith, led.0, c.requires.slot)

pub joined-requires-clause-step : goal.joined-requires-clause-step
joined-requires-clause-step c =
    let low : c.args.slot < length c.args.self.now.trees.now.roots =
    omega (arith, c.requires.slot, c.args.self.now.nets.each, c.args.self.now.each) in
    (c.args.self.now.are_trees.led c.args.slot c.args.lead low c.requires.lead).1

pub clause_id-requires : goal.clause_id-requires
clause_id-requires c =
    subst (λ (clause : Clause). IsOneOf c.args.self.now.formula.now.cnf.clauses clause)
    (λ j. sym c.lacks.ensures.value j ∷ sym c.has.ensures.value j ∷ [])
    (c.args.self.now.said.led c.args.slot c.args.track c.args.lead
    (omega (arith, c.requires.slot, c.args.self.now.each)) c.requires.track c.requires.lead)
