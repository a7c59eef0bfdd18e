use Rattle.std.proofs.Common.{All, take}
use Rattle.sat_core.specs.Stands.{IsAbove}
use Rattle.sat_merge.proofs.rewriting.are_above.Given as goal

-- the ids so far are above it
abbrev pub invariant-loop-id : goal.invariant-loop-id
invariant-loop-id l = All (IsAbove l.number) (take l.id-index l.ids)
