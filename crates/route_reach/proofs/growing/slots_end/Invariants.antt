-- the slots so far are the net's
use Rattle.std.proofs.Common.{◌≡◌, ℕ, ◌<◌, ◌≤◌}
use Rattle.fpga_types.specs.Slots.{slot_at}
use Rattle.route_reach.proofs.growing.slots_end.Given as goal

abbrev pub invariant-loop-s : goal.invariant-loop-s
invariant-loop-s l = (k : ℕ) → l.first ≤ k → k < l.s → (slot_at l.slots k).net ≡ l.net
