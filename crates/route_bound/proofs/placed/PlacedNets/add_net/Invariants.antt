-- the net is counted at the lines so far that it crosses
use Rattle.std.proofs.Common.{◌≡◌, ℕ, ◌+◌, ◌<◌, ◌≤◌, get_or, length}
use Rattle.route_bound.specs.Lines.{crosses_line, one_if}
use Rattle.route_bound.specs.Ranges.{line_count}
use Rattle.route_bound.proofs.placed.PlacedNets.add_net.Given as goal

abbrev pub invariant-loop-line : goal.invariant-loop-line
invariant-loop-line l = record {
  size : length l.counts ≡ length l.initial.counts;
  passed : (c : ℕ) → c < line_count l.self.placement.grid l.kind → c < l.line
      → get_or l.counts c 0
      ≡ get_or l.initial.counts c 0 + one_if (crosses_line l.self l.kind l.net c);
  ahead : (c : ℕ) → c < line_count l.self.placement.grid l.kind → l.line ≤ c
      → get_or l.counts c 0 ≡ get_or l.initial.counts c 0;
}
