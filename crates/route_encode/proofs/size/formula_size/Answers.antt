use Rattle.std.proofs.Common.{◌≡◌, sym}
use Rattle.route_encode.proofs.ProblemCounts.{closed, length-clauses, lits-clauses}
use Rattle.route_encode.proofs.size.formula_size.Goals as goal

pub returns-clause-clauses : goal.returns-clause-clauses
returns-clause-clauses c =
    let shut : c.closed_count-closed.result ≡ closed c.args.width c.args.problem.now =
    rw (← c.arch.ensures.value, ← c.pin_steps.ensures.value) c.closed_count-closed.ensures.count in
    rw (c.slots.ensures.value, c.steps.ensures.value, c.pairs.ensures.value, shut)
    (sym (length-clauses c.args.width c.args.problem.now))

pub returns-clause-lits : goal.returns-clause-lits
returns-clause-lits c =
    let shut : c.closed_count-closed.result ≡ closed c.args.width c.args.problem.now =
    rw (← c.arch.ensures.value, ← c.pin_steps.ensures.value) c.closed_count-closed.ensures.count in
    rw (c.slots.ensures.value, c.steps.ensures.value, c.pairs.ensures.value, shut)
    (sym (lits-clauses c.args.width c.args.problem.now c.arch.ensures.fits))
