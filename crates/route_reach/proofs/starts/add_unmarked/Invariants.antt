-- the clauses of the tracks so far were added
use Rattle.route_encode.specs.Adding.{Adds}
use Rattle.std.specs.Prelude.{flat_map}
use Rattle.route_encode.specs.Encoding.{below}
use Rattle.route_reach.proofs.StartLemmas.{unmarked_at}
use Rattle.route_reach.proofs.starts.add_unmarked.Given as goal

abbrev pub invariant-loop-track : goal.invariant-loop-track
invariant-loop-track l = Adds l.initial.formula
    (flat_map (unmarked_at l.variables.wires l.variables.reach l.width l.slot l.row)
    (below l.track)) l.formula
