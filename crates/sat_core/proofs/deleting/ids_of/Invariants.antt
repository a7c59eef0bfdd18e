use Rattle.std.proofs.Common.{◌≡◌, take}
use Rattle.sat_core.specs.Delete.{ids_of}
use Rattle.sat_core.proofs.deleting.ids_of.Given as goal

-- the ids of the clauses so far
abbrev pub invariant-loop-c : goal.invariant-loop-c
invariant-loop-c l = l.ids.items ≡ ids_of l.watches.clauses (take l.c-index l.clauses)
