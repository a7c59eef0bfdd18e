use Rattle.std.proofs.Common.{◌≡◌, ◌+◌, ◌<◌, ◌≤◌, ℕ, suc, Bool, false, slice_index_or}
use Rattle.std.specs.Prelude.{unwrap_or, vec_len, vec_capacity}
use Rattle.sat_clause.specs.Literal.{positive}
use Rattle.sat_watch.specs.Trail.{value_in}
use Rattle.sat_core.proofs.deciding.values.Given as goal

-- the values so far are those of the first variables
abbrev pub invariant-loop-v : goal.invariant-loop-v
invariant-loop-v l = record {
  many : vec_len l.values + 1 ≡ l.v;
  room : l.vars ≤ vec_capacity l.values;
  read : (k : ℕ) (d : Bool) → k < vec_len l.values →
      slice_index_or l.values.items k d ≡ unwrap_or (value_in l.watches.trail (positive
      (suc k))) false;
}
