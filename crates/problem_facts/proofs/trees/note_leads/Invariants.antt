-- each slot is come to by the first of the steps from this number on
use Rattle.std.proofs.Common.{◌≡◌, length}
use Rattle.problem_facts.specs.Leads.{AreLeads}
use Rattle.problem_facts.proofs.trees.note_leads.Given as goal

abbrev pub invariant-loop-number : goal.invariant-loop-number
invariant-loop-number l = record {
  each : length l.leads ≡ length l.initial.leads;
  leads : AreLeads l.steps l.number l.leads;
}
