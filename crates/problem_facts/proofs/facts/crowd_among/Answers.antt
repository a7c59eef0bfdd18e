use Rattle.std.proofs.Common.{ℕ, List, subst}
use Rattle.fpga_types.specs.Problem.{RoutingProblem}
use Rattle.fpga_types.specs.Size.{Size}
use Rattle.fpga_types.specs.Slots.{slots}
use Rattle.fpga_types.specs.declared.problem.Slot.{Slot}
use Rattle.problem_facts.specs.Crowd.{IsGatheredFrom, tree_of}
use Rattle.problem_facts.proofs.CrowdLaws.{is-crowd}
use Rattle.problem_facts.proofs.facts.crowd_among.Goals as goal

pub returns : goal.returns
returns c =
    let p : RoutingProblem = c.args.problem.now in
    let found : List ℕ = c.in_ok-crowd.crowd.items in
    is-crowd p c.route-given.ensures.given c.args.fullest c.requires.fullest found
    (subst (λ (g : Size). IsGatheredFrom g (slots p.route) (tree_of p) c.args.fullest found)
    c.of_problem-rooted.ensures.grid
    (subst (λ (all : List Slot). IsGatheredFrom c.of_problem-rooted.result.grid all (tree_of p)
    c.args.fullest found) c.of_problem-rooted.ensures.slots
    (subst (λ (rows : List ℕ). IsGatheredFrom c.of_problem-rooted.result.grid
    c.of_problem-rooted.result.slots.now rows c.args.fullest found) c.of_problem-rooted.ensures.roots
    c.in_ok-crowd.ensures)))
