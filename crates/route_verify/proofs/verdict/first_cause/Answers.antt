use Rattle.std.proofs.Common.{◌≡◌, ◌∙◌, ap, subst, ℕ}
use Rattle.std.specs.Prelude.{⊤}
use Rattle.fpga_graph.specs.GraphOf.{GraphOf}
use Rattle.fpga_text.specs.FirstFault.{Answers}
use Rattle.fpga_types.specs.Problem.{RoutingProblem, problem_of}
use Rattle.route_verify.specs.Reach.{causes_by}
use Rattle.route_verify.proofs.verdict.first_cause.Goals as goal

pub returns : goal.returns
returns c =
    let same : c.in-Ok.design ≡ c.args.problem.now = c.in-Ok.ensures
    ∙ (λ i. problem_of (c.arch-arch.ensures.value i) (c.netlist.ensures.value i)
    (c.placement.ensures.value i) (c.route-route.ensures.value i)) in
    subst (λ (w : ℕ). Answers (causes_by c.args.reach w c.args.problem.now c.args.found.now)
    (λ _. ⊤)
    c.check_with.result) (ap (λ (g : GraphOf). g.width) c.new-wiring.ensures)
    (subst (λ (p : RoutingProblem). Answers
    (causes_by c.args.reach c.new-wiring.result.width p c.args.found.now)
    (λ _. ⊤) c.check_with.result) same c.check_with.ensures)
