use Rattle.std.proofs.Common.{◌∙◌, length, ap, arith}
use Rattle.fpga_types.specs.Problem.{PlacedNetlist}
use Rattle.route_bound.specs.Crossing.{cut_cells}
use Rattle.route_bound.specs.Ranges.{corners_of, cut_size}
use Rattle.route_bound.proofs.CutLemmas.{crossing-few}
use Rattle.route_bound.proofs.placed.PlacedNets.crossed.Goals as goal

pub returns-clause-crossed : goal.returns-clause-crossed
returns-clause-crossed c =
    let few = crossing-few c.args.self.now (corners_of c.args.range) in
    let same = ap length c.in_ok-nets.ensures in
    let size = c.cell_count.ensures.size
    ∙ ap (λ (p : PlacedNetlist). cut_size p.placement.grid c.args.range) c.self.view_is in
    record {
      range = c.requires.range;
      some = omega (arith, size, c.requires.some);
      cells = c.cell_count.ensures.count
          ∙ ap (λ (p : PlacedNetlist). length (cut_cells p.placement.grid
          (corners_of c.args.range))) c.self.view_is;
      nets = c.in_ok-nets.ensures;
      few = omega (arith, few, same, c.requires.few);
    }
