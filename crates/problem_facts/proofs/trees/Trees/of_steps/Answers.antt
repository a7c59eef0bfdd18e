use Rattle.std.proofs.Common.{◌∙◌, ℕ, ap, length}
use Rattle.problem_facts.specs.Trees.{roots_of}
use Rattle.problem_facts.proofs.LeadLemmas.{are-trees}
use Rattle.problem_facts.proofs.trees.Trees.of_steps.Goals as goal

pub invariant_of-result : goal.invariant_of-result
invariant_of-result c =
    are-trees c.args.steps.now c.args.count _ c.requires.few_steps c.in_ok-leads.ensures.each
    (c.in_ok-roots.ensures ∙ ap (λ (n : ℕ). roots_of c.args.steps.now n)
    (ap length c.deref.ensures.value ∙ c.in_ok-leads.ensures.each))
    c.in_ok-leads.ensures.leads

pub returns-clause-trees : goal.returns-clause-trees
returns-clause-trees c =
    are-trees c.args.steps.now c.args.count _ c.requires.few_steps c.in_ok-leads.ensures.each
    (c.in_ok-roots.ensures ∙ ap (λ (n : ℕ). roots_of c.args.steps.now n)
    (ap length c.deref.ensures.value ∙ c.in_ok-leads.ensures.each))
    c.in_ok-leads.ensures.leads
