use Rattle.std.proofs.Common.{◌∙◌, sym, arith}
use Rattle.model_text.proofs.ModelLemmas.{at-place, met-marks, past-place}
use Rattle.model_text.proofs.assignment.Assignment.first_unmet.Goals as goal

pub loop-i-preserved : goal.loop-i-preserved
loop-i-preserved c = λ literals given.
    past-place literals c.args.formula.now.cnf.clauses c.loop-i.i c.clause.result.now (omega arith)
    c.clause.ensures.value (c.loop-i.invariant literals given)
    (sym (met-marks c.args.formula.now.cnf.vars literals c.args.self.now c.clause.result.now given
    c.clause.ensures.within) ∙ sym c.if-not-meets.ensures)

pub returns-then-not-meets : goal.returns-then-not-meets
returns-then-not-meets c = λ literals given.
    at-place literals c.args.formula.now.cnf.clauses c.loop-i.i c.clause.result.now (omega arith)
    c.clause.ensures.value (c.loop-i.invariant literals given)
    (sym (met-marks c.args.formula.now.cnf.vars literals c.args.self.now c.clause.result.now given
    c.clause.ensures.within) ∙ sym c.if-not-meets.ensures)
