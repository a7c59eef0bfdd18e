-- the nets are marked of which a used clause speaks, as far as the clauses were gone over
use Rattle.std.proofs.Common.{◌≡◌, ◌<◌, ℕ, false, length, get_or}
use Rattle.std.specs.List.{list_any}
use Rattle.route_encode.specs.Encoding.{below}
use Rattle.route_core.specs.Blaming.{blames_at}
use Rattle.route_core.proofs.blaming.mark_nets.Given as goal

abbrev pub invariant-loop-at : goal.invariant-loop-at
invariant-loop-at l = (net : ℕ) → net < length l.initial.marks → get_or l.marks net false
    ≡ list_any (blames_at l.used l.formula.cnf.clauses l.width l.slots net) (below l.at)
