-- the tracks are marked that the pins of the steps so far close
use Rattle.std.proofs.Common.{◌≡◌, length, take}
use Rattle.problem_facts.specs.Alone.{AreClosed}
use Rattle.problem_facts.proofs.tracks.closed_tracks.Given as goal

abbrev pub invariant-loop-step : goal.invariant-loop-step
invariant-loop-step l = record {
  each : length l.rows.items ≡ length l.roots;
  closed : AreClosed l.graph.arch l.graph.width l.roots (take l.step-index l.steps) l.rows.items;
}
