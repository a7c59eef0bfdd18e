-- the wires of the slots so far
use Rattle.std.proofs.Common.{◌≡◌, ◌≤◌, ◌*◌, ℕ, length}
use Rattle.std.specs.Prelude.{sum_by}
use Rattle.route_encode.specs.Encoding.{below}
use Rattle.route_reach.specs.Encoding.{far_tracks, frame_of}
use Rattle.route_reach.proofs.count.far_of_all.Given as goal

abbrev pub invariant-loop-slot : goal.invariant-loop-slot
invariant-loop-slot l = record {
  count : (reach : ℕ) → l.count ≡ sum_by (λ s. length (far_tracks (frame_of l.width reach l.problem)
      l.problem.route s)) (below l.slot);
  few : l.count ≤ l.slot * l.width;
}
