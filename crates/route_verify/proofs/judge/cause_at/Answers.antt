use Rattle.std.proofs.Common.{◌∙◌, Bool, false, ap}
use Rattle.std.specs.Option.{option_map_or}
use Rattle.fpga_bounds.specs.LineRules.{line_here}
use Rattle.fpga_types.specs.Fit.{RouteLine}
use Rattle.route_verify.specs.Depths.{deep_lines}
use Rattle.route_verify.specs.LineDepths.{same_by}
use Rattle.route_verify.specs.Reach.{depth_at_pin}
use Rattle.route_verify.specs.Wiring.{elem_wire}
use Rattle.route_verify.proofs.judge.cause_at.Goals as goal

pub returns : goal.returns
returns c =
    let line : RouteLine = line_here c.args.at in
    c.cause.ensures line c.requires.net (record {
      route = c.requires.here.line;
      again = c.is_on.ensures ∙ (λ k. option_map_or (λ w. c.requires.kept.wires w k)
          (elem_wire c.args.at.context.elem) false);
      taken = c.is_on-2.ensures ∙ (λ k. option_map_or (λ w. c.requires.kept.taken w k)
          (elem_wire c.args.at.context.elem) false);
      depth = c.last_but_one.ensures line.before c.requires.kept.depths
          ∙ ap (λ (t : Bool). depth_at_pin (deep_lines (same_by t) line.before))
          c.requires.kept.tracked;
    })
