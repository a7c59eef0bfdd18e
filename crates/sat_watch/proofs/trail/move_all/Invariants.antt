use Rattle.std.proofs.Common.{◌≡◌, ◌++◌, drop, map, take}
use Rattle.sat_arena.specs.Compact.{moved_by}
use Rattle.sat_watch.specs.Delete.{entry_moved}
use Rattle.sat_watch.proofs.trail.move_all.Given as goal

-- the entries so far have their reasons moved
abbrev pub invariant-loop-entry : goal.invariant-loop-entry
invariant-loop-entry l =
    l.entries ≡ map (entry_moved (moved_by l.moves)) (take l.entry-index l.initial.entries)
    ++ drop l.entry-index l.initial.entries
