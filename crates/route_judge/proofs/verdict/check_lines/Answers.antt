use Rattle.std.proofs.Common.{◌≡◌, ◌∙◌, ◌+◌, ap, sym, subst}
use Rattle.std.specs.List.{list_any}
use Rattle.fpga_bounds.specs.Heads.{lacks_line}
use Rattle.fpga_bounds.specs.NetFit.{nets_faults}
use Rattle.fpga_text.specs.FirstFault.{Faults, IsFaultless, IsRefusal}
use Rattle.fpga_text.specs.declared.fault.TextFault.{TextFault}
use Rattle.fpga_text.specs.declared.fault.TextFault.TheVariants.{Bad}
use Rattle.fpga_types.specs.Fits.{lacks_net}
use Rattle.fpga_types.specs.declared.route.RouteText.{RouteText}
use Rattle.route_judge.specs.Judge.{lines_causes}
use Rattle.route_judge.specs.Judged.{placed_line_cause}
use Rattle.route_judge.proofs.VerdictLemmas.{clean-at-end, refused-at-end, refused-lines}
use Rattle.route_judge.proofs.verdict.check_lines.Goals as goal
use Rattle.route_judge.proofs.verdict.check_lines.Goals.{After-check_nets}

-- the nets are those of the file
module _ (c : After-check_nets) where
  nets : c.as_slice.result.now ≡ c.args.judge.now.problem.route.nets
  nets = c.as_slice.ensures ∙ ap (λ (r : RouteText). r.nets) c.requires.found

  causes : let judge = c.args.judge.now in
      nets_faults (placed_line_cause judge.strict judge.width judge.problem)
      c.as_slice.result.now 0
      ≡ nets_faults (placed_line_cause judge.strict judge.width judge.problem)
      judge.problem.route.nets 0
  causes = let judge = c.args.judge.now in
      λ i. nets_faults (placed_line_cause judge.strict judge.width judge.problem) (nets i) 0

  lacks : list_any (lacks_line c.as_slice.result.now) c.args.judge.now.problem.netlist.nets
      ≡ lacks_net c.args.judge.now.problem
  lacks = λ i. list_any (lacks_line (nets i)) c.args.judge.now.problem.netlist.nets

pub returns-in-Err : goal.returns-in-Err
returns-in-Err c =
    let turn = (goal.at.returns-in-Err c).After-check_nets in
    let judge = c.args.judge.now in
    refused-lines judge.strict judge.width judge.problem c.in-Err.fault
    (subst (λ (all : Faults). IsRefusal all c.in-Err.fault) (causes turn) c.in-Err.ensures.answers)

pub returns-then-lacking : goal.returns-then-lacking
returns-then-lacking c =
    let turn = (goal.at.returns-then-lacking c).After-check_nets in
    let judge = c.args.judge.now in
    let found = c.in-Ok.ensures.answers in
    subst (λ (fault : TextFault). IsRefusal
    (lines_causes judge.strict judge.width judge.problem) fault)
    (sym (c.at.ensures
    ∙ ap (λ (r : RouteText). Bad (r.lines + 1) 806) c.requires.found))
    (refused-at-end judge.strict judge.width judge.problem
    (subst IsFaultless (causes turn) found.0) (sym (found.1 ∙ lacks turn) ∙ c.if-lacking.true))

pub returns : goal.returns
returns c =
    let turn = (goal.at.returns c).After-check_nets in
    let judge = c.args.judge.now in
    let found = c.in-Ok.ensures.answers in (
      clean-at-end judge.strict judge.width judge.problem
          (subst IsFaultless (causes turn) found.0)
          (sym (found.1 ∙ lacks turn) ∙ c.if-lacking.false),
      tt,
    )
