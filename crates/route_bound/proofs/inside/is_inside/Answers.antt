use Rattle.std.proofs.Common.{ap, sym, ◌∙◌}
use Rattle.route_bound.specs.Corners.{has_corner_in}
use Rattle.route_bound.specs.Ranges.{corners_of}
use Rattle.route_bound.specs.Reaches.{all_along}
use Rattle.route_bound.specs.declared.range.Standing.{Standing}
use Rattle.route_bound.proofs.ReachLemmas.{lies-along}
use Rattle.route_bound.proofs.inside.is_inside.Goals as goal

pub returns : goal.returns
returns c =
    ap (λ (s : Standing). s.inside) c.standing.ensures
    ∙ ap (all_along (has_corner_in (corners_of c.args.range))) c.terminal_reach-reach.ensures
    ∙ sym (lies-along c.args.arch.now c.args.grid c.args.at
    (has_corner_in (corners_of c.args.range)))
