use Rattle.std.proofs.Common.{ℕ}
use Rattle.cell_clauses.specs.Clauses.{is_cell_in}
use Rattle.cell_clauses.specs.Held.{frame_in, near_cells}
use Rattle.cell_clauses.specs.Places.{has, use_place}
use Rattle.cell_clauses.proofs.FindingLemmas.{made-behind}
use Rattle.cell_clauses.proofs.frame.PlacedWindow.add_uses.Goals as goal

pub loop-place-preserved : goal.loop-place-preserved
loop-place-preserved c =
    made-behind (λ (i : ℕ). has (use_place (frame_in c.args.self.now) c.args.net i))
    (is_cell_in (frame_in c.args.self.now) (near_cells (frame_in c.args.self.now) c.args.near))
    c.loop-place.place c.args.lits.now.items c.loop-place.lits.items c.add_use.new.lits.items
    c.loop-place.invariant c.in_ok-add_use.ensures
