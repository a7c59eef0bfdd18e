-- the clauses so far were added
use Rattle.std.specs.Prelude.{map, take}
use Rattle.cell_clauses.specs.Adding.{Extends}
use Rattle.cell_clauses.specs.Clauses.{not_both}
use Rattle.cell_clauses.specs.Held.{frame_in}
use Rattle.cell_clauses.proofs.frame.PlacedWindow.add_not_both.Given as goal

abbrev pub invariant-loop-pin : goal.invariant-loop-pin
invariant-loop-pin l = Extends l.initial.formula
    (map (not_both (frame_in l.self) l.first l.second) (take l.pin-index l.pins)) l.formula
