use Rattle.sat_core.specs.Ranking.{SameHeld}
use Rattle.sat_core.proofs.ranking.prefer_last.Given as goal

-- the same variables are held
abbrev pub invariant-loop-below : goal.invariant-loop-below
invariant-loop-below l = record { held : SameHeld l.initial.order l.order }
