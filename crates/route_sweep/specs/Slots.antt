-- The files that a search writes, by number.
use Rattle.std.specs.Prelude.{ℕ}
use Rattle.route_sweep.specs.declared.found.FileSlot.{FileSlot}
use Rattle.route_sweep.specs.declared.found.FileSlot.TheVariants.{Route, Clauses, Log}

-- the number of a file in reports
abbrev pub slot_number : FileSlot → ℕ
slot_number Route = 1
slot_number (Clauses width) = 2
slot_number (Log width) = 3
