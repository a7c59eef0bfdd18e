use Rattle.std.proofs.Common.{◌≡◌, ◌∙◌, List, Option, Some, arith, get_or, set, subst, sym}
use Rattle.std.proofs.lemmas.List.{get_or_default}
use Rattle.fpga_types.specs.declared.problem.RouteStep.{RouteStep}
use Rattle.problem_facts.specs.Trees.{earlier_of, later_of}
use Rattle.problem_facts.specs.Leads.{AreLeads}
use Rattle.problem_facts.specs.declared.trees.Lead.{Lead}
use Rattle.problem_facts.proofs.LeadLemmas.{leads-note, leads-skip}
use Rattle.problem_facts.proofs.trees.note_lead.Goals as goal

pub returns-then-from-to-clause-leads : goal.returns-then-from-to-clause-leads
returns-then-from-to-clause-leads c =
    let steps : List RouteStep = c.args.steps.now in
    let step : RouteStep = get_or steps c.args.number (record { from = 0; to = 0 }) in
    let at = get_or_default steps c.args.number (record { from = 0; to = 0 }) step
    c.requires.number in
    leads-skip steps c.args.number step c.args.leads.now c.requires.number at c.requires.leads
    (sym c.min-from.ensures ∙ c.if-from-to.true ∙ c.max-to.ensures)

pub returns-clause-leads : goal.returns-clause-leads
returns-clause-leads c =
    let steps : List RouteStep = c.args.steps.now in
    let step : RouteStep = get_or steps c.args.number (record { from = 0; to = 0 }) in
    let at = get_or_default steps c.args.number (record { from = 0; to = 0 }) step
    c.requires.number in
    let ends = c.requires.within c.args.number (record { from = 0; to = 0 }) c.requires.number in
    let noted : set c.args.leads.now (later_of step)
    (Some (record { from = earlier_of step; step = c.args.number }))
    ≡ set c.args.leads.now c.max-to.result
    (Some (record { from = c.min-from.result; step = c.args.number })) =
    λ j. set c.args.leads.now (sym c.max-to.ensures j)
    (Some (record { from = sym c.min-from.ensures j; step = c.args.number })) in
    subst (λ (leads : List (Option Lead)). AreLeads steps c.args.number leads) noted
    (leads-note steps c.args.number step c.args.leads.now c.requires.number at
    c.requires.leads
    (omega (arith, c.if-from-to.false, c.min-from.ensures, c.max-to.ensures))
    (omega (arith, ends.0, ends.1)))
