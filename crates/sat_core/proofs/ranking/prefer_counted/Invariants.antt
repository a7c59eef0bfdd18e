use Rattle.sat_core.specs.Ranking.{SameHeld}
use Rattle.sat_core.proofs.ranking.prefer_counted.Given as goal

-- the same variables are held
abbrev pub invariant-loop-v : goal.invariant-loop-v
invariant-loop-v l = record { held : SameHeld l.initial.order l.order }
