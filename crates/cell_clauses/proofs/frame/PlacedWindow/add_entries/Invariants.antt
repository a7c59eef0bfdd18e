-- the literals so far were added
use Rattle.std.specs.Prelude.{◌≡◌, ◌++◌, map, take}
use Rattle.cell_clauses.specs.Held.{frame_in}
use Rattle.cell_clauses.specs.Places.{entry_place, has, pin_number}
use Rattle.cell_clauses.proofs.frame.PlacedWindow.add_entries.Given as goal

abbrev pub invariant-loop-pin : goal.invariant-loop-pin
invariant-loop-pin l = l.lits.items ≡ l.initial.lits.items
    ++ map (λ pin. has (entry_place (frame_in l.self) l.place (pin_number pin))) (take l.pin-index l.pins)
