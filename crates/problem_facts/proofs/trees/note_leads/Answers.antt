use Rattle.std.proofs.Common.{◌≡◌, ◌+◌, ◌-◌, ℕ, arith, refl, subst}
use Rattle.problem_facts.specs.Leads.{AreLeads}
use Rattle.problem_facts.proofs.LeadLemmas.{none-lead}
use Rattle.problem_facts.proofs.trees.note_leads.Goals as goal

pub loop-number-init : goal.loop-number-init
loop-number-init c = record {
  each = refl;
  leads = none-lead c.args.steps.now c.args.leads.now c.requires.none;
}

pub note_lead-requires-clause-leads : goal.note_lead-requires-clause-leads
note_lead-requires-clause-leads c =
    let same : c.loop-number.number ≡ c.loop-number.number - 1 + 1 = omega arith in
    subst (λ (n : ℕ). AreLeads c.args.steps.now n c.loop-number.leads) same
    c.loop-number.invariant.leads
