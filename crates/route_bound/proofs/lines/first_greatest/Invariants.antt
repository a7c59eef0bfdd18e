-- the first of the greatest numbers so far
use Rattle.std.proofs.Common.{ℕ, ◌<◌, ◌≤◌, length, get_or}
use Rattle.route_bound.proofs.lines.first_greatest.Given as goal

abbrev pub invariant-loop-at : goal.invariant-loop-at
invariant-loop-at l = record {
  before : l.best < l.at;
  within : l.at ≤ length l.row;
  greatest : (k : ℕ) → k < l.at → get_or l.row k 0 ≤ get_or l.row l.best 0;
  first : (k : ℕ) → k < l.best → get_or l.row k 0 < get_or l.row l.best 0;
}
