-- the nets to blame so far
use Rattle.std.specs.Prelude.{◌≡◌, filter, map}
use Rattle.cell_clauses.specs.Clauses.{below}
use Rattle.cell_clauses.specs.Held.{frame_in}
use Rattle.cell_bound.specs.Blamed.{is_blamed, number_at}
use Rattle.cell_bound.proofs.blaming.blamed_nets.Given as goal

abbrev pub invariant-loop-place : goal.invariant-loop-place
invariant-loop-place l = l.nets.items ≡ map (number_at (frame_in l.window))
    (filter (is_blamed (frame_in l.window) l.formula.cnf l.log.steps) (below l.place))
