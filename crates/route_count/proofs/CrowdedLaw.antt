-- A crowded width has no legal routing.
use Rattle.std.proofs.Common.{ℕ, ◌≤◌, List, inl, inr, arith}
use Rattle.fpga_types.specs.Given.{IsGiven}
use Rattle.fpga_types.specs.Problem.{RoutingProblem}
use Rattle.route_encode.specs.Exact.{IsUnroutableAt}
use Rattle.problem_facts.specs.Crowd.{IsCrowd}
use Rattle.problem_facts.proofs.TrackLaws.{cell_differs, crowd_differs, few_different}
use Rattle.route_count.specs.Crowded.{IsCrowded, slots_of_cell}

pub crowded_unroutable : (width : ℕ) (p : RoutingProblem) (crowd : List ℕ) → 1 ≤ width
    → IsGiven p → IsCrowd p crowd → IsCrowded width p crowd → IsUnroutableAt width p
crowded_unroutable width p crowd some given is (inl cell) tracks legal =
    let few = few_different width p tracks given legal some (slots_of_cell p cell.0)
    (cell_differs width p tracks cell.0 given legal) in
    absurd (omega (arith, few, cell.1))
crowded_unroutable width p crowd some given is (inr large) tracks legal =
    let few = few_different width p tracks given legal some crowd
    (crowd_differs width p crowd tracks given large.0 is legal) in
    absurd (omega (arith, few, large.1))
