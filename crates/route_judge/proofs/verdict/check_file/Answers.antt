use Rattle.std.proofs.Common.{◌≡◌, ◌∙◌, true, ap, sym}
use Rattle.fpga_text.proofs.FaultLemmas.{answers-past}
use Rattle.fpga_types.specs.Fits.{same_size}
use Rattle.fpga_types.specs.Problem.{RoutingProblem}
use Rattle.route_judge.proofs.VerdictLemmas.{past-array-line}
use Rattle.route_judge.proofs.verdict.check_file.Goals as goal

pub returns : goal.returns
returns c =
    let problem = c.args.judge.now.problem in
    let same : same_size problem.placement.grid problem.route.grid ≡ true =
    ap (λ (p : RoutingProblem). same_size p.placement.grid p.route.grid)
    (sym (c.design.view_is ∙ c.design-design.ensures))
    ∙ sym c.same_size.ensures ∙ c.if-not-same_size.false in
    answers-past _ c.check_lines.result
    (past-array-line c.args.judge.now.strict c.args.judge.now.width problem same)
    c.check_lines.ensures
