-- the inputs that the hints so far name are marked
use Rattle.std.proofs.Common.{◌≡◌, ◌<◌, ℕ, false, length, take, get_or}
use Rattle.std.specs.Prelude.{◌||◌}
use Rattle.std.specs.List.{list_any}
use Rattle.route_core.specs.Blaming.{names_input}
use Rattle.route_core.proofs.blaming.mark_hints.Given as goal

abbrev pub invariant-loop-hint : goal.invariant-loop-hint
invariant-loop-hint l = (at : ℕ) → at < length l.initial.used → get_or l.used at false
    ≡ (get_or l.initial.used at false || list_any (names_input at) (take l.hint-index l.hints))
