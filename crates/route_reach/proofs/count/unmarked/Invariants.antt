-- of the tracks so far
use Rattle.std.proofs.Common.{◌≡◌, ◌≤◌, false, length}
use Rattle.std.specs.Prelude.{filter, not, slice_index_or}
use Rattle.route_encode.specs.Encoding.{below}
use Rattle.route_reach.proofs.count.unmarked.Given as goal

abbrev pub invariant-loop-t : goal.invariant-loop-t
invariant-loop-t l = record {
  count : l.count ≡ length (filter (λ t. not (slice_index_or l.row t false)) (below l.t));
  few : l.count ≤ l.t;
}
