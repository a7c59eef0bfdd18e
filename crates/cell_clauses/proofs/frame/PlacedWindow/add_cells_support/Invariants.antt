-- the clauses so far were added
use Rattle.std.specs.Prelude.{flat_map, take}
use Rattle.std.specs.List.{enumerate_from}
use Rattle.cell_clauses.specs.Adding.{Extends}
use Rattle.cell_clauses.specs.Clauses.{held_clauses}
use Rattle.cell_clauses.specs.Held.{frame_in}
use Rattle.cell_clauses.proofs.frame.PlacedWindow.add_cells_support.Given as goal

abbrev pub invariant-loop-number : goal.invariant-loop-number
invariant-loop-number l = Extends l.initial.formula (flat_map (held_clauses (frame_in l.self) (l.place, l.net))
    (take l.number (enumerate_from 0 l.self.cells.items))) l.formula
