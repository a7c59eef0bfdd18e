use Rattle.std.proofs.Common.{Bool, ap, sym, ◌∙◌}
use Rattle.std.specs.Prelude.{◌||◌}
use Rattle.std.specs.List.{list_any}
use Rattle.fpga_types.specs.Terminals.{terminal_in}
use Rattle.fpga_types.specs.declared.problem.Terminal.{Terminal}
use Rattle.route_bound.specs.Corners.{has_corner_in}
use Rattle.route_bound.specs.Ranges.{corners_of}
use Rattle.cell_clauses.specs.Frames.{is_held}
use Rattle.cell_clauses.specs.Held.{is_sink_held, placed_of}
use Rattle.cell_clauses.proofs.FindingLemmas.{any-kept}
use Rattle.cell_clauses.proofs.placed.Placed.has_held.Goals as goal

pub returns : goal.returns
returns c =
    c.has_sink_held.ensures
    ∙ ap (λ (held : Bool). list_any (is_sink_held (placed_of c.args.self.now) c.args.range held)
    c.args.sinks.now) c.is_inside-held.ensures
    ∙ sym (any-kept (terminal_in (placed_of c.args.self.now))
    (λ (at : Terminal). is_held (placed_of c.args.self.now)
    (has_corner_in (corners_of c.args.range)) c.args.driver
    || is_held (placed_of c.args.self.now) (has_corner_in (corners_of c.args.range)) at)
    c.args.sinks.now)
