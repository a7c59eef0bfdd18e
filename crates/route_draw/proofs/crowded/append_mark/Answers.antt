use Rattle.std.proofs.Common.{ℕ, List, ◌++◌, ap, ◌∙◌}
use Rattle.std.specs.Prelude.{codes, string_bytes}
use Rattle.route_draw.specs.Area.{area}
use Rattle.route_draw.specs.Crowded.{kind_of, place_said, wanted_said}
use Rattle.route_draw.proofs.CrowdLemmas.{four-joined}
use Rattle.route_draw.proofs.crowded.append_mark.Goals as goal

pub returns : goal.returns
returns c =
    four-joined (string_bytes c.args.out.now) (string_bytes c.push_str.new.self)
    (string_bytes c.append_cell.new.out) (string_bytes c.append_place.new.out) _
    (codes "<path class=\"x\" d=\"") (area c.args.cell.axis c.args.cell.x c.args.cell.y)
    (place_said (kind_of c.args.cell.axis) c.args.cell.x c.args.cell.y)
    (wanted_said c.args.want c.args.width)
    c.in_ok-push_str.ensures.bytes c.in_ok-append_cell.ensures
    (c.in_ok-append_place.ensures
    ∙ ap (λ (kind : List ℕ). string_bytes c.append_cell.new.out
    ++ place_said kind c.args.cell.x c.args.cell.y) c.kind_of.ensures)
    c.in_ok-append_wanted.ensures
