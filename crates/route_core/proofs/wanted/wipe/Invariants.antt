-- each place so far has 0
use Rattle.std.proofs.Common.{◌≡◌, ◌<◌, ℕ, get_or, length}
use Rattle.route_core.proofs.wanted.wipe.Given as goal

abbrev pub invariant-loop-i : goal.invariant-loop-i
invariant-loop-i l = record {
  many : length l.table.items ≡ length l.initial.table.items;
  none : (k : ℕ) → k < l.i → get_or l.table.items k 0 ≡ 0;
}
