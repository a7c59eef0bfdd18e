-- the literals so far were added
use Rattle.std.specs.Prelude.{◌≡◌, ◌++◌, filter, map}
use Rattle.cell_clauses.specs.Clauses.{below, is_cell_in}
use Rattle.cell_clauses.specs.Held.{frame_in, near_cells}
use Rattle.cell_clauses.specs.Places.{has, use_place}
use Rattle.cell_clauses.proofs.frame.PlacedWindow.add_uses.Given as goal

abbrev pub invariant-loop-place : goal.invariant-loop-place
invariant-loop-place l = l.lits.items ≡ l.initial.lits.items
    ++ map (λ c. has (use_place (frame_in l.self) l.net c)) (filter (is_cell_in (frame_in l.self)
    (near_cells (frame_in l.self) l.near)) (below l.place))
