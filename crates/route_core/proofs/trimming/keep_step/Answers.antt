use Rattle.std.proofs.Common.{rules, ◌++◌, [], ◌∷◌, List, ap, ◌∙◌}
use Rattle.sat_clause.specs.Step.{Step, Added}
use Rattle.route_core.proofs.KeepLemmas.{keep-made, view-some}
use Rattle.route_core.proofs.trimming.keep_step.Goals as goal

pub find-requires-clause-some : goal.find-requires-clause-some
find-requires-clause-some c =
    let is = rw c.log.ensures.value at c.step-step.ensures.value in
    view-some c.args.sources.now.formula c.args.sources.now.log c.log.ensures.rise
    c.args.at c.requires.good c.step-step.result.erase c.step-step.result.id
    c.step-step.result.lits.now c.step-step.result.hints.now is c.args.sources.now.size
    c.log.ensures.inputs c.log.ensures.within

pub returns-clause-keeps : goal.returns-clause-keeps
returns-clause-keeps c =
    let is = rw c.log.ensures.value at c.step-step.ensures.value in
    keep-made c.args.sources.now.formula c.args.sources.now.log c.log.ensures.rise
    c.args.at c.requires.good c.step-step.result.erase c.step-step.result.id
    c.step-step.result.lits.now c.step-step.result.hints.now is c.args.sources.now.size
    c.log.ensures.inputs c.log.ensures.within
    c.args.back.now.steps c.add.new.self.steps c.args.marks.now c.mark_hints.new.marks
    c.hints-hints.result.now (c.hints-hints.ensures ∙ c.in_ok-find.ensures.hints) (search rules)
    (c.add.ensures.steps
    ∙ ap (λ (ss : List Step). ss
    ++ Added c.step-step.result.id c.step-step.result.lits.now c.hints-hints.result.now ∷ [])
    c.in_ok-reserve.ensures.kept)
    c.mark_hints.ensures
