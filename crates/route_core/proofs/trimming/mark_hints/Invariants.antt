-- the steps that the hints so far name are marked
use Rattle.std.proofs.Common.{◌≡◌, ◌<◌, ℕ, false, length, take, get_or}
use Rattle.std.specs.Prelude.{◌||◌}
use Rattle.std.specs.List.{list_any}
use Rattle.route_core.specs.Keeping.{names}
use Rattle.route_core.proofs.trimming.mark_hints.Given as goal

abbrev pub invariant-loop-hint : goal.invariant-loop-hint
invariant-loop-hint l = (j : ℕ) → j < length l.initial.marks → get_or l.marks j false
    ≡ (get_or l.initial.marks j false
    || list_any (names l.sources.log j) (take l.hint-index l.hints))
