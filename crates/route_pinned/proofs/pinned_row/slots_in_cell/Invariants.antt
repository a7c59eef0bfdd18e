-- the slots of the cell so far, as many as there are tracks at most
use Rattle.std.proofs.Common.{◌≡◌, ◌≤◌, length, take}
use Rattle.problem_facts.specs.CellCounts.{slots_before}
use Rattle.route_pinned.proofs.pinned_row.slots_in_cell.Given as goal

abbrev pub invariant-loop-s : goal.invariant-loop-s
invariant-loop-s l = record {
  row : l.row.items ≡ take l.width (slots_before l.grid l.slots l.number l.s);
  few : length l.row.items ≤ l.width;
}
