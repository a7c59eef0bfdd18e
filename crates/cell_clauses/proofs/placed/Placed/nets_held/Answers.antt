use Rattle.std.proofs.Common.{List, ap, sym, ◌∙◌}
use Rattle.std.specs.Prelude.{slice_get}
use Rattle.list_laws.proofs.Places.{get-there}
use Rattle.fpga_types.specs.declared.netlist.Net.{Net}
use Rattle.route_bound.specs.Corners.{has_corner_in}
use Rattle.route_bound.specs.Ranges.{corners_of}
use Rattle.cell_clauses.specs.Held.{placed_of}
use Rattle.cell_clauses.proofs.FindingLemmas.{nets-more}
use Rattle.cell_clauses.proofs.placed.Placed.nets_held.Goals as goal

pub loop-number-preserved : goal.loop-number-preserved
loop-number-preserved c =
    nets-more (placed_of c.args.self.now) (has_corner_in (corners_of c.args.range))
    c.loop-number.number c.net-item.result c.loop-number.nets.items c.add_net.new.nets.items
    (ap (λ (nets : List Net). slice_get nets c.loop-number.number)
    (sym c.as_slice-net-items.ensures)
    ∙ get-there c.as_slice-net-items.result.now c.loop-number.number c.net-item.result
    c.net-item.result c.loop-number-test.true c.net-item.is) c.loop-number.invariant
    c.in_ok-add_net.ensures
