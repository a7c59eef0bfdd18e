use Rattle.std.proofs.Common.{◌≡◌, ◌≤◌, ◌+◌, ◌-◌, ◌/◌, ℕ, length}
use Rattle.std.specs.Prelude.{vec_len}
use Rattle.sat_check.specs.Bits.{is_set}
use Rattle.sat_check.proofs.bits.Bits.widen.Given as goal

-- words without bits have come
abbrev pub invariant-loop-self : goal.invariant-loop-self
invariant-loop-self l = record {
  no_fewer : length l.initial.self-inside.words.items ≤ length l.self-inside.words.items;
  same : (at : ℕ) → is_set l.self-inside.words.items at
      ≡ is_set l.initial.self-inside.words.items at;
}

abbrev pub decreases-loop-self : goal.decreases-loop-self
decreases-loop-self l = l.count / 64 + 1 - vec_len l.self-inside.words
