-- the slots of the cell so far
use Rattle.std.proofs.Common.{◌≡◌}
use Rattle.std.specs.Prelude.{◌==◌, filter}
use Rattle.fpga_types.specs.CellNumbers.{number_of_cell}
use Rattle.fpga_types.specs.Slots.{slot_at}
use Rattle.route_encode.specs.Encoding.{below}
use Rattle.problem_facts.proofs.crowding.slots_in.Given as goal

abbrev pub invariant-loop-s : goal.invariant-loop-s
invariant-loop-s l = l.own.items
    ≡ filter (λ s. number_of_cell l.trees.grid (slot_at l.trees.slots.now s).cell == l.number)
    (below l.s)
