-- the inputs that hints of the steps so far name are marked
use Rattle.std.proofs.Common.{◌≡◌, ◌<◌, ℕ, suc, false, length, take, get_or}
use Rattle.route_core.specs.Blamed.{is_hint}
use Rattle.route_core.proofs.blaming.mark_used.Given as goal

abbrev pub invariant-loop-at : goal.invariant-loop-at
invariant-loop-at l = (k : ℕ) → k < length l.initial.used
    → get_or l.used k false ≡ is_hint (take l.at l.log.steps) (suc k)
