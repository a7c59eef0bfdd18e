use Rattle.std.proofs.Common.{◌+◌, ◌≤◌, length}
use Rattle.sat_merge.specs.Representatives.{keeps}
use Rattle.sat_merge.specs.Merging.{AreMergedSoFar}
use Rattle.sat_merge.proofs.merged.merged.Given as goal

-- the clauses so far are merged, and there is room for the others
abbrev pub invariant-loop-at : goal.invariant-loop-at
invariant-loop-at l = record {
  so_far : AreMergedSoFar (keeps l.representatives) l.formula.cnf l.merged.cnf l.at;
  clause_room : length l.formula.cnf.clauses ≤ l.at + l.merged.clause_room;
  lit_room : l.room ≤ l.merged.lit_room;
}
