use Rattle.std.proofs.Common.{◌≡◌, subst}
use Rattle.std.specs.Prelude.{IfOk}
use Rattle.route_verify.specs.AllCauses.{all_causes}
use Rattle.route_verify.specs.Judge.{JudgedProblem}
use Rattle.route_verify.proofs.listing.gather_with.Goals as goal

pub returns : goal.returns
returns c = subst (λ (j : JudgedProblem). IfOk c.gather.result (λ causes. causes.items
    ≡ all_causes j.reach j.width j.problem c.args.found.now)) c.in_ok-judge.ensures
    c.gather.ensures
