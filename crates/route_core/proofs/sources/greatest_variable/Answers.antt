use Rattle.std.proofs.Common.{◌≡◌, ap, ℕ, List, length, take, subst, ◌∙◌, arith, All}
use Rattle.sat_clause.specs.Step.{Step}
use Rattle.std.proofs.Math.Seq.{take-length}
use Rattle.route_core.specs.SourceStore.{StepWithin}
use Rattle.route_core.proofs.ListedLemmas.{clauses-more, steps-more, steps-push, view-within}
use Rattle.route_core.proofs.sources.greatest_variable.Goals as goal

pub loop-place-preserved : goal.loop-place-preserved
loop-place-preserved c = record {
  few = c.greatest_of-most.ensures.small;
  inputs = clauses-more c.loop-place.most c.greatest_of-most.result c.args.formula.now.cnf.clauses
      c.greatest_of-most.ensures.no_less c.loop-place.invariant.inputs;
  added = steps-push c.greatest_of-most.result c.args.log.now.steps c.loop-place.place _
      c.step.ensures.value (steps-more c.loop-place.most c.greatest_of-most.result _
      c.greatest_of-most.ensures.no_less c.loop-place.invariant.added)
      (view-within c.greatest_of-most.result c.step.result.erase c.step.result.id
      c.step.result.lits.now c.step.result.hints.now c.greatest_of-most.ensures.within);
}

pub returns-clause-added : goal.returns-clause-added
returns-clause-added c =
    let all : c.loop-place.place ≡ length c.args.log.now.steps =
    omega (arith, c.len-place-end.ensures) in
    subst (λ (xs : List Step). All (StepWithin c.loop-place.most) xs)
    (ap (λ (n : ℕ). take n c.args.log.now.steps) all ∙ take-length c.args.log.now.steps)
    c.loop-place.invariant.added
