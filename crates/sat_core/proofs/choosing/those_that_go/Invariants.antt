use Rattle.std.proofs.Common.{take}
use Rattle.sat_core.specs.Deletable.{ArePartOf, refs_of}
use Rattle.sat_core.proofs.choosing.those_that_go.Given as goal

-- those that go are some of the candidates so far
abbrev pub invariant-loop-candidate : goal.invariant-loop-candidate
invariant-loop-candidate l =
    ArePartOf l.deleted.items (refs_of (take l.candidate-index l.candidates))
