use Rattle.std.proofs.Common.{◌+◌, refl}
use Rattle.std.specs.Prelude.{ℕ}
use Rattle.route_bound.specs.Corners.{has_corner_in}
use Rattle.route_bound.specs.Ranges.{corners_of}
use Rattle.cell_clauses.proofs.FindingLemmas.{passing-behind}
use Rattle.cell_clauses.proofs.cells.add_row.Goals as goal

pub loop-column-preserved : goal.loop-column-preserved
loop-column-preserved c =
    passing-behind (has_corner_in (corners_of c.args.range))
    (λ (x : ℕ). record { axis = c.args.axis; x = x; y = c.args.y }) c.args.columns.first
    c.loop-column.column (c.args.columns.first + c.loop-column.column) c.args.cells.now.items
    c.loop-column.cells.items c.add_cell.new.cells.items refl c.loop-column.invariant
    c.in_ok-add_cell.ensures
