use Rattle.std.proofs.Common.{◌≡◌, ◌∙◌, sym, subst}
use Rattle.std.specs.List.{list_any}
use Rattle.fpga_bounds.specs.Heads.{lacks_line}
use Rattle.fpga_bounds.specs.NetFit.{nets_faults}
use Rattle.fpga_text.specs.FirstFault.{Faults, IsFaultless, IsRefusal}
use Rattle.fpga_text.specs.declared.fault.TextFault.{TextFault}
use Rattle.fpga_types.specs.Fits.{lacks_net}
use Rattle.route_verify.specs.Judge.{lines_causes}
use Rattle.route_verify.specs.Reach.{line_cause_by}
use Rattle.route_verify.proofs.VerdictLemmas.{clean-at-end, refused-at-end, refused-lines}
use Rattle.route_verify.proofs.verdict.check_lines.Goals as goal
use Rattle.route_verify.proofs.verdict.check_lines.Goals.{After-check_nets}

-- the nets are those of the file
module _ (c : After-check_nets) where
  causes : let judge = c.args.judge.now in
      nets_faults (line_cause_by judge.reach judge.width judge.problem) c.as_slice.result.now 0
      ≡ nets_faults (line_cause_by judge.reach judge.width judge.problem) c.args.found.now.nets 0
  causes = let judge = c.args.judge.now in
      λ i. nets_faults (line_cause_by judge.reach judge.width judge.problem)
      (c.as_slice.ensures i) 0

  lacks : list_any (lacks_line c.as_slice.result.now) c.args.judge.now.problem.netlist.nets
      ≡ lacks_net (record c.args.judge.now.problem { route = c.args.found.now })
  lacks = λ i. list_any (lacks_line (c.as_slice.ensures i)) c.args.judge.now.problem.netlist.nets

pub returns-in-Err : goal.returns-in-Err
returns-in-Err c =
    let turn = (goal.at.returns-in-Err c).After-check_nets in
    let judge = c.args.judge.now in
    refused-lines judge.reach judge.width judge.problem c.args.found.now c.in-Err.fault
    (subst (λ (all : Faults). IsRefusal all c.in-Err.fault) (causes turn) c.in-Err.ensures.answers)

pub returns-then-lacking : goal.returns-then-lacking
returns-then-lacking c =
    let turn = (goal.at.returns-then-lacking c).After-check_nets in
    let judge = c.args.judge.now in
    let found = c.in-Ok.ensures.answers in
    subst (λ (fault : TextFault). IsRefusal
    (lines_causes judge.reach judge.width judge.problem c.args.found.now) fault)
    (sym c.at.ensures)
    (refused-at-end judge.reach judge.width judge.problem c.args.found.now
    (subst IsFaultless (causes turn) found.0) (sym (found.1 ∙ lacks turn) ∙ c.if-lacking.true))

pub returns : goal.returns
returns c =
    let turn = (goal.at.returns c).After-check_nets in
    let judge = c.args.judge.now in
    let found = c.in-Ok.ensures.answers in (
      clean-at-end judge.reach judge.width judge.problem c.args.found.now
          (subst IsFaultless (causes turn) found.0)
          (sym (found.1 ∙ lacks turn) ∙ c.if-lacking.false),
      tt,
    )
