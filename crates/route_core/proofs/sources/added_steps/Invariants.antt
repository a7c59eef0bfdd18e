-- the steps so far that add clauses are listed
use Rattle.std.proofs.Common.{◌≡◌, take}
use Rattle.route_core.specs.SourceStore.{added_from}
use Rattle.route_core.proofs.sources.added_steps.Given as goal

abbrev pub invariant-loop-place : goal.invariant-loop-place
invariant-loop-place l = l.added.items ≡ added_from 0 (take l.place l.log.steps)
