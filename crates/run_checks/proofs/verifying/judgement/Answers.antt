use Rattle.std.proofs.Common.{◌≡◌, ℕ, Option, subst, sym}
use Rattle.std.specs.Prelude.{IfOk}
use Rattle.route_verify.specs.Reach.{judged_by}
use Rattle.route_verify.specs.declared.judgement.Judgement.{Judgement}
use Rattle.run_checks.proofs.verifying.judgement.Goals as goal

pub returns-in-None : goal.returns-in-None
returns-in-None c =
    subst (λ (reach : Option ℕ). IfOk c.verify.result (λ (judgement : Judgement). judgement
    ≡ judged_by reach c.args.job.now.width c.args.problem.now c.args.found.now)) (sym c.in-None.is)
    c.verify.ensures
