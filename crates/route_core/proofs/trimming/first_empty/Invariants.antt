-- none of the steps so far adds the empty clause
use Rattle.std.proofs.Common.{◌≡◌, ◌<◌, ℕ, false, Some}
use Rattle.std.specs.Prelude.{slice_get}
use Rattle.sat_clause.specs.Judge.{is_empty_clause}
use Rattle.sat_clause.specs.Step.{Step}
use Rattle.route_core.proofs.trimming.first_empty.Given as goal

abbrev pub invariant-loop-at : goal.invariant-loop-at
invariant-loop-at l = (k : ℕ) (step : Step) → k < l.at → slice_get l.log.steps k ≡ Some step
    → is_empty_clause step ≡ false
