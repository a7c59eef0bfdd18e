-- When what finds needed hints is ready for a step.
use Rattle.std.specs.Prelude.{◌≡◌, ℕ}
use Rattle.route_core.specs.declared.needed.NeededHints.{NeededHints}

-- it is for variables up to this number
abbrev pub IsReady : ℕ → NeededHints → Type 0
IsReady size needed = needed.wanted.size ≡ size
