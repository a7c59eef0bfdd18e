-- Trees: how slots are come to by steps, and the slots that stand for their trees.
use Rattle.std.specs.Prelude.{◌≡◌, ℕ, ◌<◌, ◌≤◌, List, length, drop, find, All, Option, None, Some, slice_get, slice_index, slice_index_or}
use Rattle.fpga_types.specs.declared.limits.TheConstants.{STEP_LIMIT}
use Rattle.fpga_types.specs.declared.problem.RouteStep.{RouteStep}
use Rattle.problem_facts.specs.Trees.{earlier_of, leads_to}
use Rattle.problem_facts.specs.declared.trees.Lead.{Lead}

-- the slot is come to by the first of the steps from number k on that leads to it, if one does
abbrev pub IsLead : List RouteStep → (k s : ℕ) → Option Lead → Type 0
IsLead steps k s None = find (leads_to s) (drop k steps) ≡ None
IsLead steps k s (Some lead) = (step : RouteStep) × (find (leads_to s) (drop k steps) ≡ Some step)
    × (slice_get steps lead.step ≡ Some step) × (lead.from ≡ earlier_of step)

-- so is each
abbrev pub AreLeads : List RouteStep → (k : ℕ) → List (Option Lead) → Type 0
AreLeads steps k leads =
    (s : ℕ) → s < length leads → IsLead steps k s (slice_index_or leads s None)

-- for each slot the one that stands for its tree, and how it is come to
pub record TreesState : Type 0 where
  pub roots : List ℕ
  pub leads : List (Option Lead)

-- the slot that stands for the slot's tree
abbrev pub root_at : TreesState → (s : ℕ) → ℕ
root_at t s = slice_index t.roots s

-- how the slot is come to
abbrev pub lead_at : TreesState → (s : ℕ) → Option Lead
lead_at t s = slice_index_or t.leads s None

-- a slot that is come to is so from an earlier one, of its tree, and another stands for its tree
pub record AreTrees (t : TreesState) : Type 0 where
  pub each : length t.leads ≡ length t.roots
  pub low : (s : ℕ) → s < length t.roots → root_at t s ≤ s
  pub within : All (λ root. root < length t.roots) t.roots
  pub first : (s : ℕ) → s < length t.roots → lead_at t s ≡ None → root_at t s ≡ s
  pub led : (s : ℕ) (lead : Lead) → s < length t.roots → lead_at t s ≡ Some lead
      → (lead.from < s) × (lead.step < STEP_LIMIT) × (root_at t lead.from ≡ root_at t s)
