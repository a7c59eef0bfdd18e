use Rattle.std.proofs.Common.{◌≡◌, ◌+◌, ◌∙◌, false, [], ap, sym, subst}
use Rattle.std.specs.List.{list_any}
use Rattle.fpga_text.specs.FirstFault.{Faults, IsFaultless, IsRefusal}
use Rattle.fpga_text.specs.declared.fault.TextFault.{TextFault}
use Rattle.fpga_text.specs.declared.fault.TextFault.TheVariants.{Bad}
use Rattle.fpga_types.specs.Fits.{lacks_net, net_line_fault}
use Rattle.fpga_types.specs.Problem.{RoutingProblem}
use Rattle.fpga_types.specs.Slots.{slots_of}
use Rattle.fpga_types.specs.declared.route.RouteNet.{RouteNet}
use Rattle.fpga_bounds.specs.Heads.{lacks_line, line_faults}
use Rattle.fpga_bounds.specs.NetFit.{nets_faults}
use Rattle.fpga_bounds.proofs.ProblemLemmas.{clean-end, refused-end, refused-nets}
use Rattle.fpga_bounds.proofs.SlotsOfLemmas.{slots-start}
use Rattle.fpga_bounds.proofs.problem_check.check_lines.Goals as goal
use Rattle.fpga_bounds.proofs.problem_check.check_lines.Goals.{After-check_nets}

-- the rules and the nets are those of the problem
module _ (c : After-check_nets) where
  nets : c.as_slice.result.now ≡ c.args.design.now.route.nets
  nets = c.as_slice.ensures ∙ ap (λ (p : RoutingProblem). p.route.nets) c.design.view_is

  faults : nets_faults (net_line_fault c.in-Ok.rules) c.as_slice.result.now 0
      ≡ nets_faults (net_line_fault c.args.design.now) c.args.design.now.route.nets 0
  faults = λ i. nets_faults (net_line_fault (c.in-Ok.ensures i)) (nets i) 0

  lacks : list_any (lacks_line c.as_slice.result.now) c.in-Ok.rules.netlist.nets
      ≡ lacks_net c.args.design.now
  lacks = λ i. list_any (lacks_line (nets i)) (c.in-Ok.ensures i).netlist.nets

pub returns-in-Err : goal.returns-in-Err
returns-in-Err c =
    let turn = (goal.at.returns-in-Err c).After-check_nets in
    refused-nets c.args.design.now c.in-Err.fault
    (subst (λ (all : Faults). IsRefusal all c.in-Err.fault) (faults turn) c.in-Err.ensures.answers)

pub returns-then-lacking : goal.returns-then-lacking
returns-then-lacking c =
    let turn = (goal.at.returns-then-lacking c).After-check_nets in
    let found = c.in-Ok-check_nets.ensures.answers in
    subst (λ (fault : TextFault). IsRefusal (line_faults c.args.design.now) fault)
    (ap (λ (p : RoutingProblem). Bad (p.route.lines + 1) 502) (sym c.design.view_is)
    ∙ sym c.at.ensures)
    (refused-end c.args.design.now (subst IsFaultless (faults turn) found.0)
    (sym (found.1 ∙ lacks turn) ∙ c.if-lacking.true))

-- what is read past the end of some nets
abbrev NO_NET : RouteNet
NO_NET = record { k = 0; name = []; global = false; line = 0; elems = []; kept = [] }

pub returns : goal.returns
returns c =
    let turn = (goal.at.returns c).After-check_nets in
    let found = c.in-Ok-check_nets.ensures.answers in (
      clean-end c.args.design.now (subst IsFaultless (faults turn) found.0)
          (sym (found.1 ∙ lacks turn) ∙ c.if-lacking.false),
      c.in-Ok-check_nets.ensures.kept NO_NET ∙ slots-start c.as_slice.result.now NO_NET
          ∙ ap slots_of (nets turn),
    )
