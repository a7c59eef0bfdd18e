use Rattle.std.proofs.Common.{Option, subst}
use Rattle.fpga_text.specs.FirstFault.{IsFaultOf, first_fault}
use Rattle.fpga_text.specs.declared.fault.TextFault.{TextFault}
use Rattle.route_verify.specs.Reach.{causes_by}
use Rattle.route_verify.proofs.LimitLemmas.{first-is-cause, no-limit}
use Rattle.route_verify.proofs.verdict.judge_by.Goals as goal

pub unreachable-requires : goal.unreachable-requires
unreachable-requires c =
    let first : Option TextFault =
    first_fault (causes_by c.args.reach c.args.width c.args.problem.now c.args.found.now) in
    no-limit first c.in-Err-Limit.field-0-0 c.in-Err-Limit.field-0-1
    (first-is-cause c.args.reach c.args.width c.args.problem.now c.args.found.now)
    (subst (IsFaultOf first) c.in-Err-Limit.field-0-is c.in-Err-Limit.ensures)
