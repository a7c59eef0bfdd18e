use Rattle.std.proofs.Common.{◌≡◌, ◌∙◌, false, ap, subst, sym, take}
use Rattle.std.specs.Option.{option_map_or}
use Rattle.list_laws.proofs.Places.{take-get}
use Rattle.fpga_bounds.specs.LineRules.{line_here}
use Rattle.fpga_bounds.proofs.LineLemmas.{found-fault}
use Rattle.fpga_types.specs.Fit.{RouteLine}
use Rattle.route_judge.specs.Judge.{HasKept}
use Rattle.route_judge.specs.Judged.{placed_line_cause}
use Rattle.route_judge.specs.Rules.{PlacedNet}
use Rattle.route_judge.proofs.placed_judge.JudgeLineRules.check_elem.Goals as goal
use Rattle.route_judge.proofs.placed_judge.JudgeLineRules.check_elem.Goals.{After-cause}
use Rattle.route_verify.specs.Wiring.{elem_wire}

-- what is found is the cause against the line
module _ (c : After-cause) where
  abbrev line : RouteLine
  line = line_here c.args.at

  judged : c.cause.result ≡ placed_line_cause c.args.self.now.strict c.args.self.now.width
      c.args.self.now.problem line
  judged = c.cause.ensures line (ap (λ (of : PlacedNet). of.name) c.requires.net) (record {
    route = c.requires.here.line;
    again = c.is_on.ensures ∙ (λ k. option_map_or (λ w. c.requires.kept.wires w k)
        (elem_wire c.args.at.context.elem) false);
    taken = c.is_on-2.ensures ∙ (λ k. option_map_or (λ w. c.requires.kept.taken w k)
        (elem_wire c.args.at.context.elem) false);
  })
      ∙ ap (λ (of : PlacedNet). placed_line_cause of.strict of.width of.problem line)
      c.requires.net

pub returns-in-Some : goal.returns-in-Some
returns-in-Some c =
    found-fault _ _ (sym c.in-Some.is ∙ judged (goal.at.returns-in-Some c).After-cause)

pub returns : goal.returns
returns c = (
  sym (judged (goal.at.returns c).After-cause) ∙ c.in_default.is,
  subst (HasKept c.add_line.new.self c.args.at.earlier.now)
      (sym (take-get c.args.at.net.now.elems c.args.at.position c.args.at.context.elem
      c.requires.here.elem))
      (c.in-Ok.ensures c.args.at.earlier.now
      (take c.args.at.position c.args.at.net.now.elems) c.requires.kept),
)
