use Rattle.sat_core.specs.Ranking.{SameHeld}
use Rattle.sat_core.proofs.analysis.Analysis.bump_behind_short.Given as goal

-- the same variables are held
abbrev pub invariant-loop-k : goal.invariant-loop-k
invariant-loop-k l = SameHeld l.initial.ranking l.ranking
