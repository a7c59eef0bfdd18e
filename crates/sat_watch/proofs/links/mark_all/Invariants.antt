use Rattle.std.proofs.Common.{◌≡◌, take}
use Rattle.sat_watch.specs.Relinking.{marked}
use Rattle.sat_watch.proofs.links.mark_all.Given as goal

-- the clauses so far are marked
abbrev pub invariant-loop-c : goal.invariant-loop-c
invariant-loop-c l = record {
  clauses : l.arena.clauses ≡ marked l.on (take l.c-index l.clauses) l.initial.arena.clauses;
  spare : l.arena.spare ≡ l.initial.arena.spare;
}
