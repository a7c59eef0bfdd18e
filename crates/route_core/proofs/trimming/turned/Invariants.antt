-- the steps from a place on stand in the opposite order
use Rattle.std.proofs.Common.{◌≡◌, drop}
use Rattle.std.specs.Prelude.{reverse}
use Rattle.route_core.proofs.trimming.turned.Given as goal

abbrev pub invariant-loop-at : goal.invariant-loop-at
invariant-loop-at l = l.log.steps ≡ reverse (drop l.at l.back.steps)
