-- the clauses of the pin steps so far were added
use Rattle.std.proofs.Common.{take}
use Rattle.route_encode.specs.Added.{pin_clauses}
use Rattle.route_encode.specs.Adding.{Adds}
use Rattle.route_encode.proofs.fabric.add_open_tracks.Given as goal

abbrev pub invariant-loop-step : goal.invariant-loop-step
invariant-loop-step l =
    Adds l.initial.formula (pin_clauses l.graph (take l.step-index l.pin_steps)) l.formula
