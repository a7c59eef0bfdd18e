use Rattle.std.proofs.Common.{take}
use Rattle.sat_core.specs.Reading.{AreLearned}
use Rattle.sat_core.proofs.analysis.Analysis.lower_literals.Given as goal

-- what the places so far come to
abbrev pub invariant-loop-place : goal.invariant-loop-place
invariant-loop-place l =
    AreLearned l.self.watches.now l.self.marks.now l.point (take l.place-index l.place-items)
    l.lits.items l.back
