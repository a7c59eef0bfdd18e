use Rattle.sat_core.specs.Ranking.{SameHeld}
use Rattle.sat_core.proofs.RankingLaws.{AreDrawnTo}
use Rattle.sat_core.proofs.ranking.draw_activities.Given as goal

-- the variables so far have their activities
abbrev pub invariant-loop-v : goal.invariant-loop-v
invariant-loop-v l = record {
  held : SameHeld l.initial.order l.order;
  so_far : AreDrawnTo l.seed l.v l.draw l.order;
}
