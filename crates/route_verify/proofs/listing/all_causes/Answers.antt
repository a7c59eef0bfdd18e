use Rattle.std.proofs.Common.{◌≡◌, ◌∙◌, ap}
use Rattle.fpga_graph.specs.GraphOf.{GraphOf}
use Rattle.fpga_types.specs.Problem.{problem_of}
use Rattle.route_verify.specs.AllCauses.{all_causes}
use Rattle.route_verify.proofs.AllCauseLemmas.{are-all}
use Rattle.route_verify.proofs.listing.all_causes.Goals as goal

pub returns : goal.returns
returns c =
    let same : c.in_ok-design.design ≡ c.args.problem.now = c.in_ok-design.ensures
    ∙ (λ i. problem_of (c.arch-arch.ensures.value i) (c.netlist.ensures.value i)
    (c.placement.ensures.value i) (c.route-route.ensures.value i)) in
    are-all c.args.reach c.args.width c.args.problem.now c.args.found.now
    c.in_ok-causes.causes.items
    (c.in_ok-causes.ensures ∙ (λ i. all_causes c.args.reach
    (ap (λ (g : GraphOf). g.width) c.new-wiring.ensures i) (same i) c.args.found.now))
