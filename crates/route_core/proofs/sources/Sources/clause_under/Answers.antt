use Rattle.std.proofs.Common.{◌-◌, List, [], sym, subst, arith, All}
use Rattle.std.proofs.lemmas.Option.{get_or_from_slice_get, slice_get_within}
use Rattle.sat_clause.specs.Literal.{Clause, IsWithin}
use Rattle.route_core.proofs.ListedLemmas.{lits-within, said-input, said-none, said-step}
use Rattle.route_core.proofs.sources.Sources.clause_under.Goals as goal

pub returns-then-id-len-clause-value : goal.returns-then-id-len-clause-value
returns-then-id-len-clause-value c =
    rw (← c.self.view_is)
    (said-input c.self.inside.formula.now.cnf c.self.inside.log.now.steps c.args.id
    c.clause.result.now c.requires (omega (arith, c.if-id-len.true, c.len.ensures))
    c.clause.ensures.value)

pub returns-then-id-len-clause-within : goal.returns-then-id-len-clause-within
returns-then-id-len-clause-within c =
    let clauses : List Clause = c.self.inside.formula.now.cnf.clauses in
    rw (← c.self.view_is)
    (subst (λ (clause : Clause). All (IsWithin c.self.inside.size) clause)
    (get_or_from_slice_get clauses (c.args.id - 1) c.clause.result.now [] c.clause.ensures.value)
    (c.self.invariant.inputs_within (c.args.id - 1) []
    (slice_get_within clauses (c.args.id - 1) c.clause.result.now c.clause.ensures.value)))

pub returns-in_default-clause-value : goal.returns-in_default-clause-value
returns-in_default-clause-value c =
    let found = rw (← c.self.view_is) at c.in_default.ensures.value in
    rw (← c.self.view_is)
    (said-none c.self.inside.formula.now.cnf c.self.inside.log.now.steps c.args.id
    (omega (arith, c.if-id-len.false, c.len.ensures)) (sym found))

pub returns-clause-value : goal.returns-clause-value
returns-clause-value c =
    let found = rw (← c.self.view_is) at c.in-Some.ensures.value in
    rw (← c.self.view_is)
    (said-step c.self.inside.formula.now.cnf c.self.inside.log.now.steps c.args.id
    c.in-Some.place (omega (arith, c.if-id-len.false, c.len.ensures)) (sym found)
    c.step.result.erase c.step.result.id c.step.result.lits.now c.step.result.hints.now
    c.step.ensures.value)

pub returns-clause-within : goal.returns-clause-within
returns-clause-within c =
    rw (← c.self.view_is)
    (lits-within c.self.inside.size c.self.inside.log.now.steps c.in-Some.place
    c.step.result.erase c.step.result.id c.step.result.lits.now c.step.result.hints.now
    c.self.invariant.added_within c.step.ensures.value c.step.ensures.none)
