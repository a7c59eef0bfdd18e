-- the clauses so far were added
use Rattle.std.specs.Prelude.{flat_map, take}
use Rattle.std.specs.List.{enumerate_from}
use Rattle.cell_clauses.specs.Adding.{Extends}
use Rattle.cell_clauses.specs.Clauses.{enters_clauses}
use Rattle.cell_clauses.specs.Held.{frame_in}
use Rattle.cell_clauses.proofs.frame.PlacedWindow.add_enters.Given as goal

abbrev pub invariant-loop-place : goal.invariant-loop-place
invariant-loop-place l = Extends l.initial.formula (flat_map (enters_clauses (frame_in l.self))
    (take l.place (enumerate_from 0 l.self.arrivals.items))) l.formula
