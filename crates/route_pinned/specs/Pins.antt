-- The slots whose tracks may be given beforehand: those of one cell, which has the most slots.
use Rattle.std.specs.Prelude.{ℕ, List, [], map, find, take}
use Rattle.std.specs.List.{enumerate_from}
use Rattle.std.specs.Option.{option_map_or}
use Rattle.fpga_types.specs.CellNumbers.{cell_count}
use Rattle.fpga_types.specs.Problem.{RoutingProblem}
use Rattle.fpga_types.specs.Size.{Size}
use Rattle.fpga_types.specs.Slots.{slots}
use Rattle.fpga_types.specs.declared.problem.Slot.{Slot}
use Rattle.route_encode.specs.Encoding.{below}
use Rattle.problem_facts.specs.Fullest.{has_most, slots_in}

-- the slots of the pinned cell, which is the first by number of the cells that have the most
abbrev pub pinned_slots : Size → List Slot → List ℕ
pinned_slots grid all =
    option_map_or (slots_in grid all) (find (has_most grid all) (below (cell_count grid))) []

-- the pinned slots, as far as there are tracks
abbrev pub pin_row : ℕ → RoutingProblem → List ℕ
pin_row width p = take width (pinned_slots p.route.grid (slots p.route))

-- the first of these slots with track 0, the second with track 1 and so on
abbrev pub pins : ℕ → RoutingProblem → List (ℕ × ℕ)
pins width p = map (λ pin. (pin.1, pin.0)) (enumerate_from 0 (pin_row width p))
