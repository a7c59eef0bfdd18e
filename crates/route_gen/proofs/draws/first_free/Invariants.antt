use Rattle.std.proofs.Common.{◌≡◌, ℕ, ◌<◌, ◌≤◌, false}
use Rattle.route_gen.specs.Draws.{entry, has_room}
use Rattle.route_gen.proofs.draws.first_free.Given as goal

abbrev pub invariant-loop-block : goal.invariant-loop-block
invariant-loop-block l = (k : ℕ) → l.from ≤ k → k < l.block →
    has_room (entry l.inputs k) ≡ false
