-- the clauses so far were added
use Rattle.std.specs.Prelude.{flat_map}
use Rattle.route_encode.specs.Adding.{Adds}
use Rattle.cell_clauses.specs.Clauses.{below, tallies_at}
use Rattle.cell_clauses.proofs.tallies.add_count.Given as goal

abbrev pub invariant-loop-cell : goal.invariant-loop-cell
invariant-loop-cell l =
    Adds l.initial.formula (flat_map (tallies_at l.sizes.nets l.sizes.cells l.sizes.width l.net)
    (below l.cell)) l.formula
