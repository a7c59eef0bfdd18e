use Rattle.std.proofs.Common.{◌≡◌, ◌++◌, take}
use Rattle.std.specs.Prelude.{flat_map, string_bytes}
use Rattle.router_says.specs.Seen.{pin_said}
use Rattle.router_says.proofs.places.append_places.Given as goal

-- the places so far were appended
abbrev pub invariant-loop-step : goal.invariant-loop-step
invariant-loop-step l = string_bytes l.out
    ≡ string_bytes l.initial.out ++ flat_map (λ step. pin_said step.pin) (take l.step-index l.row)
