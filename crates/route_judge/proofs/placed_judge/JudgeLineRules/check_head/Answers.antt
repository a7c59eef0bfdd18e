use Rattle.std.proofs.Common.{◌≡◌, ◌∙◌, None, ap, rules, sym, subst}
use Rattle.fpga_bounds.specs.NetFit.{head_line}
use Rattle.fpga_bounds.specs.NetTable.{number_named}
use Rattle.fpga_bounds.proofs.HeadLemmas.{net-lines-more}
use Rattle.fpga_text.specs.FirstFault.{IsFaultOf}
use Rattle.fpga_text.specs.declared.fault.TextFault.TheVariants.{Bad}
use Rattle.fpga_types.specs.declared.route.RouteNet.{RouteNet}
use Rattle.route_judge.specs.Judged.{placed_line_cause}
use Rattle.route_judge.proofs.RuleLemmas.{head-unknown}
use Rattle.route_judge.proofs.placed_judge.JudgeLineRules.check_head.Goals as goal

pub returns-in_default-clause-answers : goal.returns-in_default-clause-answers
returns-in_default-clause-answers c = λ earlier has.
    let named : c.as_slice.result.now ≡ c.args.net.now.name =
    c.as_slice.ensures ∙ ap (λ (n : RouteNet). n.name) c.net.view_is in
    let none : number_named c.args.self.now.problem.netlist.nets c.args.net.now.name ≡ None =
    sym (c.in_default.ensures.number
    ∙ (λ i. number_named (c.names.ensures i) (named i))) in
    let at : c.at.result ≡ Bad c.args.net.now.line 807 = search rules in
    subst (IsFaultOf (placed_line_cause c.args.self.now.strict c.args.self.now.width
    c.args.self.now.problem (head_line earlier c.args.net.now))) (sym at)
    (head-unknown c.args.self.now.strict c.args.self.now.width c.args.self.now.problem earlier
    c.args.net.now none)

pub returns-clause-marked : goal.returns-clause-marked
returns-clause-marked c = λ earlier has.
    let named : c.as_slice.result.now ≡ c.args.net.now.name =
    c.as_slice.ensures ∙ ap (λ (n : RouteNet). n.name) c.net.view_is in
    net-lines-more c.args.self.now.problem.netlist.nets c.args.marks.now earlier c.args.net.now
    c.in-Some.number has
    (sym (c.in-Some.ensures.number ∙ (λ i. number_named (c.names.ensures i) (named i))))
