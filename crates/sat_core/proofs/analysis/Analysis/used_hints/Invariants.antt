use Rattle.std.proofs.Common.{◌≡◌, take}
use Rattle.std.specs.Prelude.{flat_map}
use Rattle.sat_core.specs.Reading.{hint_at}
use Rattle.sat_core.proofs.analysis.Analysis.used_hints.Given as goal

-- the ids of the places so far
abbrev pub invariant-loop-place : goal.invariant-loop-place
invariant-loop-place l =
    l.hints.items ≡ flat_map (hint_at l.self.watches.now l.self.marks.now) (take l.place-index
    l.place-items)
