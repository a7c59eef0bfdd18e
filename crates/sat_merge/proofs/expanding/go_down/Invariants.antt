use Rattle.std.proofs.Common.{◌≡◌, ◌≤◌, length}
use Rattle.sat_merge.proofs.expanding.go_down.Given as goal

-- the set is one of the same variables, and the hints that were there stand in front
abbrev pub invariant-loop : goal.invariant-loop
invariant-loop l = record {
  size : l.falses.size ≡ l.fn.falses.size;
  first : l.first ≤ length l.hints.items;
}
