use Rattle.std.proofs.Common.{◌≡◌, ◌<◌, ℕ, false, get_or}
use Rattle.sat_clause.specs.declared.literal.Lit.{Lit}
use Rattle.sat_core.specs.Deletable.{are_same, reason_in}
use Rattle.sat_core.proofs.choosing.is_reason.Given as goal

-- the literals so far have other reasons
abbrev pub invariant-loop-l : goal.invariant-loop-l
invariant-loop-l l = (k : ℕ) (d : Lit) → k < l.l-index →
    are_same (reason_in l.watches.trail (get_or l.l-items k d)) l.c ≡ false
