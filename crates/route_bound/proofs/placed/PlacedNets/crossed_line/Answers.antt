use Rattle.std.proofs.Common.{ℕ, ◌≤◌, ap, ◌∙◌, sym, subst}
use Rattle.fpga_types.specs.Problem.{PlacedNetlist}
use Rattle.fpga_types.specs.Size.{Size}
use Rattle.route_bound.specs.Ranges.{IsRange, cut_size, line_range}
use Rattle.route_bound.specs.declared.range.CornerRange.{CornerRange}
use Rattle.route_bound.proofs.CutLemmas.{full-line, line-range, line-size, line-some}
use Rattle.route_bound.proofs.placed.PlacedNets.crossed_line.Goals as goal

pub crossed-requires-clause-range : goal.crossed-requires-clause-range
crossed-requires-clause-range c =
    let grid : Size = c.args.self.now.placement.grid in
    let at = c.of_line-range.ensures
    ∙ ap (λ (p : PlacedNetlist). line_range p.placement.grid c.args.kind c.best_line-line.result)
    c.self.view_is in
    subst (λ (r : CornerRange). IsRange grid r) (sym at)
    (line-range grid c.args.kind c.best_line-line.result c.best_line-line.ensures.there)

pub crossed-requires-clause-some : goal.crossed-requires-clause-some
crossed-requires-clause-some c =
    let grid : Size = c.args.self.now.placement.grid in
    let at = c.of_line-range.ensures
    ∙ ap (λ (p : PlacedNetlist). line_range p.placement.grid c.args.kind c.best_line-line.result)
    c.self.view_is in
    subst (λ (r : CornerRange). 1 ≤ cut_size grid r) (sym at)
    (subst (λ (n : ℕ). 1 ≤ n)
    (sym (line-size grid c.args.kind c.best_line-line.result c.best_line-line.ensures.there))
    (line-some grid c.args.kind))

pub returns-clause-most : goal.returns-clause-most
returns-clause-most c =
    let at = c.of_line-range.ensures
    ∙ ap (λ (p : PlacedNetlist). line_range p.placement.grid c.args.kind c.best_line-line.result)
    c.self.view_is in
    full-line c.args.self.now c.args.kind c.best_line-line.result c.in_ok-cut.cut c.best_line-line.ensures
    c.in_ok-cut.ensures.crossed (c.in_ok-cut.ensures.range ∙ at)
