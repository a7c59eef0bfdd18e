use Rattle.std.proofs.Common.{ap, ◌∙◌}
use Rattle.fpga_types.specs.Problem.{PlacedNetlist}
use Rattle.route_bound.specs.Crossing.{crosses}
use Rattle.route_bound.specs.Ranges.{corners_of, line_range}
use Rattle.route_bound.specs.declared.range.CornerRange.{CornerRange}
use Rattle.route_bound.proofs.placed.PlacedNets.crosses_line.Goals as goal

pub returns : goal.returns
returns c =
    let at = c.of_line.ensures
    ∙ ap (λ (p : PlacedNetlist). line_range p.placement.grid c.args.kind c.args.line)
    c.self.view_is in
    c.crosses.ensures
    ∙ ap (λ (r : CornerRange). crosses c.args.self.now (corners_of r) c.args.net.now) at
