-- the bound so far has its reason, and is as many tracks as the next width
use Rattle.std.specs.Prelude.{◌≡◌}
use Rattle.run_placed.specs.Raised.{IsRaised}
use Rattle.run_placed.proofs.raising.raise.Given as goal

abbrev pub invariant-loop-width : goal.invariant-loop-width
invariant-loop-width g l = IsRaised l.placed l.cut l.raised × (l.raised.tracks ≡ l.width)
