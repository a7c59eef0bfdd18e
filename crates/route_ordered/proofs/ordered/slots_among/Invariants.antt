-- those so far
use Rattle.std.proofs.Common.{◌≡◌, ◌≤◌, length, take}
use Rattle.std.specs.Prelude.{filter, nat_lt}
use Rattle.route_ordered.proofs.ordered.slots_among.Given as goal

abbrev pub invariant-loop-s : goal.invariant-loop-s
invariant-loop-s l = record {
  among : l.among.items ≡ filter (λ s. nat_lt s l.count) (take l.s-index l.row);
  few : length l.among.items ≤ l.s-index;
}
