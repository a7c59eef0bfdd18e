use Rattle.std.proofs.Common.{◌+◌}
use Rattle.sat_core.specs.Deciding.{GoesOn}
use Rattle.sat_core.specs.Ranking.{IsRanked, held_count}
use Rattle.sat_core.proofs.deciding.decide_on.Given as goal

-- each turn takes out a variable, or one that is decided again
abbrev pub decreases-loop-c : goal.decreases-loop-c
decreases-loop-c l = held_count l.ranking.held + l.again

abbrev pub invariant-loop-c : goal.invariant-loop-c
invariant-loop-c l = record {
  goes : GoesOn l.initial.watches l.watches;
  ranked : IsRanked l.watches.vars l.watches.trail l.ranking;
}
