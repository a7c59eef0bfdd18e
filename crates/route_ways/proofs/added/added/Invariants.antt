use Rattle.std.proofs.Common.{◌≡◌, ◌≤◌, take}
use Rattle.sat_clause.specs.Learned.{added_count}
use Rattle.route_ways.proofs.added.added.Given as goal

-- the clauses that the steps so far add
abbrev pub invariant-loop-at : goal.invariant-loop-at
invariant-loop-at l = record {
  many : l.added ≡ added_count (take l.at l.log.steps);
  few : l.added ≤ l.at;
}
