-- the clauses so far were added
use Rattle.std.specs.Prelude.{flat_map}
use Rattle.route_encode.specs.Adding.{Adds}
use Rattle.cell_clauses.specs.Clauses.{below, steps_at}
use Rattle.cell_clauses.proofs.tallies.add_steps.Given as goal

abbrev pub invariant-loop-many : goal.invariant-loop-many
invariant-loop-many l =
    Adds l.initial.formula (flat_map (steps_at l.sizes.nets l.sizes.cells l.sizes.width l.net l.cell)
    (below l.many)) l.formula
