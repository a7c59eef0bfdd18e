use Rattle.sat_core.specs.Analysis.{GoesOn, IsWalk}
use Rattle.sat_core.proofs.analysis.first_point.Given as goal

-- the places above were passed
abbrev pub invariant-loop-lowest : goal.invariant-loop-lowest
invariant-loop-lowest l = record {
  goes_on : GoesOn l.watches l.initial.marks l.marks;
  walk : IsWalk l.watches l.marks l.place l.lowest;
}

abbrev pub decreases-loop-lowest : goal.decreases-loop-lowest
decreases-loop-lowest l = l.place
