-- the slots of the cell so far, as many as there is room for
use Rattle.std.proofs.Common.{◌≡◌, suc, take}
use Rattle.problem_facts.specs.CellCounts.{slots_before}
use Rattle.route_count.proofs.crowded.first_of_cell.Given as goal

abbrev pub invariant-loop-s : goal.invariant-loop-s
invariant-loop-s l =
    l.row.items ≡ take (suc l.width) (slots_before l.grid l.slots l.number l.s)
