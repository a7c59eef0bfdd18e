-- the clauses of the steps so far were added
use Rattle.std.proofs.Common.{take}
use Rattle.std.specs.Prelude.{flat_map}
use Rattle.route_encode.specs.Added.{step_clauses}
use Rattle.route_encode.specs.Adding.{Adds}
use Rattle.route_encode.proofs.fabric.add_joined_tracks.Given as goal

abbrev pub invariant-loop-step : goal.invariant-loop-step
invariant-loop-step l =
    Adds l.initial.formula
    (flat_map (step_clauses l.graph l.slots) (take l.step-index l.steps)) l.formula
