use Rattle.std.proofs.Common.{◌≤◌, subst, sym}
use Rattle.sat_clause.specs.declared.limits.TheConstants.{VARIABLE_LIMIT}
use Rattle.route_sweep.specs.Asked.{asked}
use Rattle.route_sweep.specs.Ended.{EndsShort}
use Rattle.route_sweep.proofs.FoundLemmas.{finds-refuted, finds-spent, found-short}
use Rattle.route_sweep.proofs.searching.one_width.Goals as goal

pub returns-in-Ok-Refuted-clause-finds : goal.returns-in-Ok-Refuted-clause-finds
returns-in-Ok-Refuted-clause-finds g c =
    let way = c.args.way.now in
    let p = c.args.problem.now in
    let width = c.args.width in
    let formula = g.E.Encoder.formula_of c.args.encoder.now p width in
    finds-refuted (g.W.Searcher.copies way) (g.W.Searcher.refutes way p width formula)
    (g.W.Searcher.leaves_open way p width formula) (asked c.args.ask.now) width formula
    (g.E.Encoder.is_good c.args.encoder.now p width) (g.S.Shelf.state c.args.shelf.now)
    (g.S.Shelf.state c.write_proof.new.shelf)
    (rw c.copy_count.ensures at c.in-Ok.ensures.held) c.in-Ok-Refuted.log.steps
    c.in-Ok.ensures.none_without_model c.in-Ok-Refuted.lead
    (rw (c.in-Ok-Refuted.field-0-is, c.in-Ok.ensures.formula) at c.in-Ok-Refuted.ensures.ended)
    c.write_proof.result (rw c.in-Ok.ensures.formula at c.write_proof.ensures)
    c.and-in-Ok-Refuted.result c.and-in-Ok-Refuted.ensures

pub returns-in-Ok-Open-clause-finds : goal.returns-in-Ok-Open-clause-finds
returns-in-Ok-Open-clause-finds g c =
    let way = c.args.way.now in
    let p = c.args.problem.now in
    let width = c.args.width in
    let formula = g.E.Encoder.formula_of c.args.encoder.now p width in
    finds-spent (g.W.Searcher.copies way) (g.W.Searcher.refutes way p width formula)
    (g.W.Searcher.leaves_open way p width formula) (asked c.args.ask.now) width formula
    (g.E.Encoder.is_good c.args.encoder.now p width) (g.S.Shelf.state c.args.shelf.now)
    (g.S.Shelf.state c.write_proof-in-Ok-Open.new.shelf)
    (rw c.copy_count.ensures at c.in-Ok.ensures.held) c.in-Ok-Open.log.steps
    c.in-Ok-Open.learned
    (rw (c.in-Ok-Open.field-0-is, c.in-Ok.ensures.formula) at c.in-Ok-Open.ensures.ended)
    c.write_proof-in-Ok-Open.result (rw c.in-Ok.ensures.formula at c.write_proof-in-Ok-Open.ensures)
    c.and-in-Ok-Open.result c.and-in-Ok-Open.ensures

pub search-requires-clause-few_vars : goal.search-requires-clause-few_vars
search-requires-clause-few_vars g c = subst (λ s. s.cnf.vars ≤ VARIABLE_LIMIT) c.formula.view_is
    c.formula.invariant.few_vars

pub returns-in-Ok-Model-clause-stopped : goal.returns-in-Ok-Model-clause-stopped
returns-in-Ok-Model-clause-stopped g c short =
    absurd (found-short (g.W.Searcher.budget c.args.way.now) _ c.write_routing.result
    c.and.result c.and.ensures short)

pub returns-in-Ok-Refuted-clause-stopped : goal.returns-in-Ok-Refuted-clause-stopped
returns-in-Ok-Refuted-clause-stopped g c short =
    absurd (found-short (g.W.Searcher.budget c.args.way.now) _ c.write_proof.result
    c.and-in-Ok-Refuted.result c.and-in-Ok-Refuted.ensures short)

pub returns-in-Ok-Open-clause-stopped : goal.returns-in-Ok-Open-clause-stopped
returns-in-Ok-Open-clause-stopped g c short =
    let budget = g.W.Searcher.budget c.args.way.now in
    c.in-Ok-Open.ensures.stopped (subst (EndsShort budget) (sym c.in-Ok-Open.field-0-is)
    (found-short budget _ c.write_proof-in-Ok-Open.result
    c.and-in-Ok-Open.result c.and-in-Ok-Open.ensures short))
