use Rattle.std.proofs.Common.{◌≡◌, ◌≤◌, ◌∙◌, ℕ, List, length, subst, sym, ap}
use Rattle.fpga_types.specs.Problem.{RoutingProblem}
use Rattle.fpga_types.specs.Size.{Size}
use Rattle.fpga_types.specs.Slots.{slots}
use Rattle.fpga_types.specs.declared.limits.TheConstants.{SLOT_LIMIT}
use Rattle.fpga_types.specs.declared.problem.Slot.{Slot}
use Rattle.fpga_types.specs.declared.route.RouteText.{RouteText}
use Rattle.problem_facts.specs.Crowd.{tree_of}
use Rattle.problem_facts.specs.Trees.{AreRooted}
use Rattle.problem_facts.proofs.CrowdLaws.{are-rooted}
use Rattle.problem_facts.proofs.gathering.TreeSlots.of_problem.Goals as goal

pub invariant_of-result : goal.invariant_of-result
invariant_of-result c =
    let p : RoutingProblem = c.args.problem.now in
    let few : length (slots p.route) ≤ SLOT_LIMIT =
    subst (λ (all : List Slot). length all ≤ SLOT_LIMIT) c.slots.ensures.value
    c.slots.ensures.limit in
    let roots : c.roots.result.now ≡ tree_of p = c.roots.ensures ∙ c.requires.trees in
    record {
      are_rooted = subst
          (λ (g : Size). AreRooted g c.slots.result.now c.roots.result.now)
          (sym (ap (λ (r : RouteText). r.grid) c.route.ensures.value))
          (subst (λ (all : List Slot). AreRooted p.route.grid all c.roots.result.now)
          (sym c.slots.ensures.value)
          (subst (λ (rows : List ℕ). AreRooted p.route.grid (slots p.route) rows) (sym roots)
          (are-rooted p c.route.ensures.given few)));
    }
