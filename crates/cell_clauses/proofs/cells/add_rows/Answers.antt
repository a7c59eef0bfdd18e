use Rattle.std.proofs.Common.{◌+◌, refl}
use Rattle.route_bound.specs.Corners.{has_corner_in}
use Rattle.route_bound.specs.Ranges.{corners_of}
use Rattle.cell_clauses.specs.Sides.{cells_of_row}
use Rattle.cell_clauses.proofs.FindingLemmas.{rows-behind}
use Rattle.cell_clauses.proofs.cells.add_rows.Goals as goal

pub loop-row-preserved : goal.loop-row-preserved
loop-row-preserved c =
    rows-behind (has_corner_in (corners_of c.args.range)) (cells_of_row c.args.axis c.args.columns)
    c.args.rows.first c.loop-row.row (c.args.rows.first + c.loop-row.row) c.args.cells.now.items
    c.loop-row.cells.items c.add_row.new.cells.items refl c.loop-row.invariant
    c.in_ok-add_row.ensures
