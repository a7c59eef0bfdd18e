use Rattle.std.proofs.Common.{◌≡◌, ◌+◌, ◌∙◌, refl, sym, ap}
use Rattle.fpga_types.specs.Size.{Size}
use Rattle.route_bound.specs.Ranges.{cut_size}
use Rattle.route_bound.proofs.SizeLemmas.{size-is}
use Rattle.route_bound.proofs.range.CornerRange.cell_count.Goals as goal

pub returns-clause-count : goal.returns-clause-count
returns-clause-count c =
    let inside : Size = record { nx = c.grid.inside.nx; ny = c.grid.inside.ny } in
    let beside = c.times_sides-beside.ensures.product in
    let along = c.times_sides-along.ensures.product in
    let size : c.times_sides-beside.result + c.times_sides-along.result
    ≡ cut_size inside c.args.self = rw (beside, along) refl in
    size ∙ ap (λ (g : Size). cut_size g c.args.self) c.grid.view_is
    ∙ sym (size-is c.args.grid c.args.self c.requires)
