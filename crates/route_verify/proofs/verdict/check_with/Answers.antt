use Rattle.std.proofs.Common.{subst}
use Rattle.std.specs.Prelude.{⊤}
use Rattle.fpga_text.specs.FirstFault.{Answers}
use Rattle.route_verify.specs.Judge.{JudgedProblem}
use Rattle.route_verify.specs.Reach.{causes_by}
use Rattle.route_verify.proofs.verdict.check_with.Goals as goal

pub returns : goal.returns
returns c = subst (λ (j : JudgedProblem). Answers
    (causes_by j.reach j.width j.problem c.args.found.now)
    (λ _. ⊤) c.check_file.result) c.in-Ok.ensures c.check_file.ensures
