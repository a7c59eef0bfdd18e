use Rattle.std.proofs.Common.{◌≡◌, ◌≤◌}
use Rattle.sat_core.specs.Ranking.{IsRanked, held_count}
use Rattle.sat_core.proofs.deciding.decide.Given as goal

-- each turn takes out a variable that has a value
abbrev pub decreases-loop-v : goal.decreases-loop-v
decreases-loop-v l = held_count l.ranking.held

abbrev pub invariant-loop-v : goal.invariant-loop-v
invariant-loop-v l = record {
  ranked : IsRanked l.watches.vars l.watches.trail l.ranking;
  same : l.watches ≡ l.initial.watches;
  few : held_count l.ranking.held ≤ held_count l.initial.ranking.held;
}
