use Rattle.std.proofs.Common.{◌++◌, ap, ◌∙◌}
use Rattle.std.specs.Prelude.{string_bytes}
use Rattle.fpga_types.specs.Size.{Size}
use Rattle.route_draw.specs.Ruler.{columns, rows}
use Rattle.route_draw.proofs.RulerLemmas.{rulers-added}
use Rattle.route_draw.proofs.ruler.append_rulers.Goals as goal

pub returns : goal.returns
returns c =
    rulers-added c.args.grid c.args.below.x c.args.below.y c.args.beside.x c.args.beside.y
    _ _ _ _ _ _ _ c.in_ok-append_opening.ensures
    (c.in_ok-append_columns.ensures ∙ ap
    (λ (g : Size). string_bytes c.append_opening.new.out ++ columns g.nx) c.grid.view_is)
    c.in_ok-push_str.ensures.bytes c.in_ok-append_opening-2.ensures
    (c.in_ok-append_rows.ensures ∙ ap
    (λ (g : Size). string_bytes c.append_opening-2.new.out ++ rows g.ny) c.grid.view_is)
    c.in_ok-push_str-2.ensures.bytes
