use Rattle.std.proofs.Common.{◌≡◌, ◌∙◌, ◌++◌, None, refl, sym}
use Rattle.fpga_types.specs.declared.route.RouteText.{RouteText}
use Rattle.route_verify.specs.AllCauses.{cause_against}
use Rattle.route_verify.specs.Gathered.{nets_causes}
use Rattle.route_verify.specs.Judge.{JudgedProblem}
use Rattle.route_verify.specs.Judged.{array_cause}
use Rattle.route_verify.proofs.gathering.gather.Goals as goal

pub returns : goal.returns
returns c =
    let judge : JudgedProblem = c.args.judge.now in
    let found : RouteText = c.args.found.now in
    let heads : c.in_ok-heads.heads ≡ found.nets = c.in_ok-heads.ensures ∙ c.as_slice-nets.ensures
    in
    let front : c.put.new.causes.items
    ≡ cause_against None None (array_cause judge.problem found) =
    c.in_ok-put.ensures
    ∙ (λ i. c.new-causes.ensures.items i ++ cause_against None None (c.array_cause.ensures i)) in
    c.in_ok-put-2.ensures
    ∙ (λ i. (c.in_ok-gather_nets.ensures
    ∙ (λ k. front k ++ nets_causes judge (c.as_slice-nets.ensures k) 0)) i
    ++ cause_against None None (c.end_cause.ensures found (sym heads) refl i))
