-- none so far is one
use Rattle.std.proofs.Common.{◌≡◌, drop, map}
use Rattle.std.specs.Prelude.{find}
use Rattle.router_says.specs.AtFault.{same_class, use_said}
use Rattle.router_says.proofs.pin_use.shared_with.Given as goal

abbrev pub invariant-loop-other : goal.invariant-loop-other
invariant-loop-other l =
    find (same_class (use_said l.used)) (map use_said (drop l.other-index l.others))
    ≡ find (same_class (use_said l.used)) (map use_said l.others)
