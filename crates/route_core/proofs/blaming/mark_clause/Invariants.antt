-- the nets are marked of whose slots the literals so far are
use Rattle.std.proofs.Common.{◌≡◌, ◌<◌, ℕ, false, length, take, get_or}
use Rattle.std.specs.Prelude.{◌||◌}
use Rattle.route_core.specs.Blamed.{speaks_of}
use Rattle.route_core.proofs.blaming.mark_clause.Given as goal

abbrev pub invariant-loop-l : goal.invariant-loop-l
invariant-loop-l l = (net : ℕ) → net < length l.initial.marks → get_or l.marks net false
    ≡ (get_or l.initial.marks net false
    || speaks_of l.width l.slots net (take l.l-index l.clause))
