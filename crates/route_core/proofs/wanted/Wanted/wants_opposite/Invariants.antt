-- no negation so far is wanted
use Rattle.std.proofs.Common.{◌≡◌, false, take}
use Rattle.std.specs.List.{list_any}
use Rattle.sat_clause.specs.Literal.{negation}
use Rattle.route_core.specs.Wanting.{is_wanted}
use Rattle.route_core.proofs.wanted.Wanted.wants_opposite.Given as goal

abbrev pub invariant-loop-l : goal.invariant-loop-l
invariant-loop-l l =
    list_any (λ m. is_wanted l.self (negation m)) (take l.l-index l.clause) ≡ false
