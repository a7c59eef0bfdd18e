-- the clauses of the rivals that the walk has passed were added
use Rattle.std.proofs.Common.{ℕ, List, length, ◌-◌}
use Rattle.std.specs.Option.{option_map_or}
use Rattle.std.specs.Prelude.{flat_map}
use Rattle.route_encode.specs.Adding.{Adds}
use Rattle.route_encode.specs.Encoding.{apart_track}
use Rattle.route_encode.proofs.RivalLemmas.{IsWalked}
use Rattle.route_encode.proofs.walk.add_apart_from_rivals.Given as goal

abbrev pub invariant-loop-next : goal.invariant-loop-next
invariant-loop-next l = record {
  done : List ℕ;
  walked : IsWalked l.chains l.slot l.next done;
  added : Adds l.initial.formula
      (flat_map (λ b. apart_track l.variables.width (l.slot, b)) done) l.formula;
}

abbrev pub decreases-loop-next : goal.decreases-loop-next
decreases-loop-next l = option_map_or (λ b. length l.chains - b) l.next 0
