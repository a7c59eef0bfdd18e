-- the ids so far
use Rattle.std.proofs.Common.{◌≡◌, ◌-◌}
use Rattle.sat_count.specs.Refuting.{ids_behind}
use Rattle.sat_count.proofs.refutation.ids_behind.Given as goal

abbrev pub invariant-loop-id : goal.invariant-loop-id
invariant-loop-id l = l.ids.items ≡ ids_behind l.behind (l.id - l.behind)
