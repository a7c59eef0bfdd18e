use Rattle.std.proofs.Common.{◌≡◌, ◌∙◌, true, ap, sym}
use Rattle.fpga_text.proofs.FaultLemmas.{answers-past}
use Rattle.fpga_types.specs.Fits.{same_size}
use Rattle.fpga_types.specs.Problem.{RoutingProblem}
use Rattle.route_verify.proofs.VerdictLemmas.{past-array-line}
use Rattle.route_verify.proofs.verdict.check_file.Goals as goal

pub returns : goal.returns
returns c =
    let same : same_size c.args.judge.now.problem.placement.grid c.args.found.now.grid ≡ true =
    ap (λ (p : RoutingProblem). same_size p.placement.grid c.args.found.now.grid)
    (sym (c.behind-judge.view_is ∙ c.design.ensures))
    ∙ sym c.same_size.ensures ∙ c.if-not-same_size.false in
    answers-past _ c.check_lines.result
    (past-array-line c.args.judge.now.reach c.args.judge.now.width c.args.judge.now.problem
    c.args.found.now same)
    c.check_lines.ensures
