-- the clauses of the slots so far were added
use Rattle.std.specs.Prelude.{flat_map}
use Rattle.route_encode.specs.Adding.{Adds}
use Rattle.route_encode.specs.Encoding.{below}
use Rattle.route_reach.specs.Encoding.{frame_of, starts_at_source}
use Rattle.route_reach.proofs.starts.add_starts.Given as goal

abbrev pub invariant-loop-slot : goal.invariant-loop-slot
invariant-loop-slot l = Adds l.initial.formula
    (flat_map (starts_at_source (frame_of l.width l.variables.reach l.problem) l.problem.route)
    (below l.slot)) l.formula
