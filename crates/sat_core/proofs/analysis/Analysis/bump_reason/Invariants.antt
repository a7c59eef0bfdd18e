use Rattle.sat_core.specs.Ranking.{SameHeld}
use Rattle.sat_core.proofs.analysis.Analysis.bump_reason.Given as goal

-- the same variables are held
abbrev pub invariant-loop-l : goal.invariant-loop-l
invariant-loop-l l = SameHeld l.initial.ranking l.ranking
