use Rattle.std.proofs.Common.{◌∙◌, None, Some, sym}
use Rattle.sat_rat.proofs.GroupLaws.{had_one, is_due, lacks_literal}
use Rattle.sat_rat.proofs.resolution.take_group.Goals as goal

pub returns-then-has-clause-fault : goal.returns-then-has-clause-fault
returns-then-has-clause-fault c = λ clauses finds.
    had_one clauses c.args.lower.now.set c.args.l c.args.had.now
    (record { id = c.args.group.id; hints = c.args.group.hints.now }) c.in-Some.clause.now
    (c.in-Some.ensures.value ∙ finds c.args.group.id) (sym c.if-has.true ∙ c.has.ensures)

pub returns-then-count-eq0-clause-fault : goal.returns-then-count-eq0-clause-fault
returns-then-count-eq0-clause-fault c = λ clauses finds.
    lacks_literal clauses c.args.lower.now.set c.args.l c.args.had.now
    (record { id = c.args.group.id; hints = c.args.group.hints.now }) c.in-Some.clause.now
    (c.in-Some.ensures.value ∙ finds c.args.group.id) (sym c.if-has.false ∙ c.has.ensures)
    (sym c.times-count.ensures ∙ c.if-count-eq0.true)

pub returns-in-Some-fault-clause-fault : goal.returns-in-Some-fault-clause-fault
returns-in-Some-fault-clause-fault c = λ clauses finds.
    is_due clauses c.args.lower.now.set c.args.l c.args.had.now
    (record { id = c.args.group.id; hints = c.args.group.hints.now }) c.in-Some.clause.now
    (c.in-Some.ensures.value ∙ finds c.args.group.id) (sym c.if-has.false ∙ c.has.ensures)
    (λ none. c.if-count-eq0.false (c.times-count.ensures ∙ none)) (Some c.in-Some-fault.cause)
    (sym c.in-Some-fault.is ∙ c.in-Ok.ensures.ok clauses finds)

pub returns-in-None-clause-fault : goal.returns-in-None-clause-fault
returns-in-None-clause-fault c = λ clauses finds.
    is_due clauses c.args.lower.now.set c.args.l c.args.had.now
    (record { id = c.args.group.id; hints = c.args.group.hints.now }) c.in-Some.clause.now
    (c.in-Some.ensures.value ∙ finds c.args.group.id) (sym c.if-has.false ∙ c.has.ensures)
    (λ none. c.if-count-eq0.false (c.times-count.ensures ∙ none)) None
    (sym c.in-None.is ∙ c.in-Ok.ensures.ok clauses finds)
