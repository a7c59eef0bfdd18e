-- the clauses so far were added
use Rattle.std.specs.Prelude.{flat_map}
use Rattle.route_encode.specs.Adding.{Adds}
use Rattle.cell_clauses.specs.Clauses.{below, counts_at}
use Rattle.cell_clauses.proofs.tallies.add_counts.Given as goal

abbrev pub invariant-loop-net : goal.invariant-loop-net
invariant-loop-net l =
    Adds l.initial.formula (flat_map (counts_at l.sizes.nets l.sizes.cells l.sizes.width)
    (below l.net)) l.formula
