use Rattle.std.proofs.Common.{◌∙◌, ℕ, List, Option, ap, arith, get_or, length, subst, sym}
use Rattle.problem_facts.specs.Trees.{roots_of}
use Rattle.problem_facts.proofs.TreeLemmas.{length-roots}
use Rattle.problem_facts.specs.Leads.{IsLead}
use Rattle.problem_facts.specs.declared.trees.Lead.{Lead}
use Rattle.problem_facts.proofs.LeadLemmas.{early, newest-first, newest-led}
use Rattle.problem_facts.proofs.trees.root_by.Goals as goal

pub returns-in_default : goal.returns-in_default
returns-in_default c =
    sym (newest-first c.args.steps.now c.args.slot
    (subst (λ (o : Option Lead). IsLead c.args.steps.now 0 c.args.slot o) c.in_default.is
    c.requires.lead))

pub bounds-roots-lead : goal.bounds-roots-lead
bounds-roots-lead c =
    let is = subst (λ (o : Option Lead). IsLead c.args.steps.now 0 c.args.slot o) c.in-Some.is
    c.requires.lead in
    let before = early c.args.steps.now c.args.slot is.0 is.1 in
    omega (
      arith,
      before,
      is.3,
      ap length c.requires.roots,
      length-roots c.args.steps.now c.args.slot,
    )

pub returns : goal.returns
returns c =
    let is = subst (λ (o : Option Lead). IsLead c.args.steps.now 0 c.args.slot o) c.in-Some.is
    c.requires.lead in
    ap (λ (xs : List ℕ). get_or xs c.in-Some.lead.from 0) c.requires.roots
    ∙ ap (λ (m : ℕ). get_or (roots_of c.args.steps.now c.args.slot) m 0) is.3
    ∙ sym (newest-led c.args.steps.now c.args.slot is.0 is.1)
