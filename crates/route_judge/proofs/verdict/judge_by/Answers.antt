use Rattle.std.proofs.Common.{Option, subst}
use Rattle.fpga_text.specs.FirstFault.{IsFaultOf, first_fault}
use Rattle.fpga_text.specs.declared.fault.TextFault.{TextFault}
use Rattle.route_judge.specs.Judged.{placed_route_causes}
use Rattle.route_judge.proofs.CauseLemmas.{first-is-cause}
use Rattle.route_judge.proofs.verdict.judge_by.Goals as goal
use Rattle.route_verify.proofs.LimitLemmas.{no-limit}

pub unreachable-requires : goal.unreachable-requires
unreachable-requires c =
    let first : Option TextFault =
    first_fault (placed_route_causes c.args.strict c.args.width c.in-Ok.design) in
    no-limit first c.in-Err-Limit.field-0-0 c.in-Err-Limit.field-0-1
    (first-is-cause c.args.strict c.args.width c.in-Ok.design)
    (subst (IsFaultOf first) c.in-Err-Limit.field-0-is c.in-Err-Limit.ensures)
