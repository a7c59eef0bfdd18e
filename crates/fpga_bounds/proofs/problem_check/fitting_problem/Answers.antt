use Rattle.std.proofs.Common.{◌≡◌, ◌∙◌, true, ap, sym}
use Rattle.fpga_text.proofs.FaultLemmas.{answers-past}
use Rattle.fpga_types.specs.Fits.{same_size}
use Rattle.fpga_types.specs.Problem.{RoutingProblem}
use Rattle.fpga_bounds.proofs.ProblemLemmas.{past-array}
use Rattle.fpga_bounds.proofs.problem_check.fitting_problem.Goals as goal

pub returns : goal.returns
returns c =
    let same : same_size c.args.design.now.placement.grid c.args.design.now.route.grid ≡ true =
    ap (λ (p : RoutingProblem). same_size p.placement.grid p.route.grid) (sym c.design.view_is)
    ∙ sym c.same_size.ensures ∙ c.if-not-same_size.false in
    answers-past _ c.check_lines.result (past-array c.args.design.now same) c.check_lines.ensures
