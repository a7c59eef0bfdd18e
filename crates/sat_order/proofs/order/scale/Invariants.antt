use Rattle.std.proofs.Common.{◌≡◌, ◌/◌, ◌^◌, ◌≤◌, ◌<◌, ℕ, slice_index}
use Rattle.sat_order.proofs.order.scale.Given as goal

-- the activities so far are divided
abbrev pub invariant-loop-activity : goal.invariant-loop-activity
invariant-loop-activity l = record {
  done : (k : ℕ) → k < l.activity-index →
      slice_index l.activity-items k ≡ slice_index l.initial.activity-items k / 2 ^ 40;
  rest : (k : ℕ) → l.activity-index ≤ k →
      slice_index l.activity-items k ≡ slice_index l.initial.activity-items k;
}
