use Rattle.std.proofs.Common.{subst, arith}
use Rattle.route_ways.specs.Plain.{HasSearched}
use Rattle.route_ways.proofs.WayLemmas.{plainly-open, plainly-refuted, plainly-stopped}
use Rattle.route_ways.proofs.plain.PlainSearcher.search.Goals as goal

pub returns-in-Ok-Refuted-clause-ended : goal.returns-in-Ok-Refuted-clause-ended
returns-in-Ok-Refuted-clause-ended g c =
    let way = c.args.self.now in
    let formula = c.args.formula.now.cnf in
    let log = c.solve_told.new.log.steps in
    plainly-refuted way formula log c.requires.few c.requires.few_vars c.requires.serves
    (subst (HasSearched way formula log) c.in-Ok-Refuted.field-0-is c.in-Ok-Refuted.ensures.searched)
    c.new-lead.result.items c.new-lead.ensures.items

pub returns-in-Ok-Spent-clause-ended : goal.returns-in-Ok-Spent-clause-ended
returns-in-Ok-Spent-clause-ended g c =
    let way = c.args.self.now in
    let formula = c.args.formula.now.cnf in
    let log = c.solve_told.new.log.steps in
    plainly-open way formula log c.requires.few c.requires.few_vars c.requires.serves
    (subst (HasSearched way formula log) c.in-Ok-Spent.field-0-is c.in-Ok-Spent.ensures.searched)

pub returns-in-Ok-Spent-clause-stopped : goal.returns-in-Ok-Spent-clause-stopped
returns-in-Ok-Spent-clause-stopped g c short = absurd (omega (arith, short))

pub returns-in-Ok-Stopped-clause-ended : goal.returns-in-Ok-Stopped-clause-ended
returns-in-Ok-Stopped-clause-ended g c =
    let way = c.args.self.now in
    let formula = c.args.formula.now.cnf in
    let log = c.solve_told.new.log.steps in (
      plainly-stopped way formula log c.requires.few c.requires.few_vars c.requires.serves
          (subst (HasSearched way formula log) c.in-Ok-Stopped.field-0-is
          c.in-Ok-Stopped.ensures.searched)
          (c.in-Ok-Stopped.ensures.limited c.in-Ok-Stopped.field-0-is),
      c.added-learned.ensures,
    )

pub returns-in-Ok-Stopped-clause-stopped : goal.returns-in-Ok-Stopped-clause-stopped
returns-in-Ok-Stopped-clause-stopped g c short =
    c.in-Ok-Stopped.ensures.stopped c.in-Ok-Stopped.field-0-is
