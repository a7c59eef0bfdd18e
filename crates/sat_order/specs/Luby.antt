-- The sequence of Luby, Sinclair and Zuckerman (Optimal speedup of Las Vegas algorithms, 1993).
use Rattle.std.specs.Prelude.{◌≡◌, ℕ, ◌+◌, ◌-◌, ◌^◌, ◌≤◌, ◌<◌}

-- the n-th term, from 1 on: 2^(k-1) where n is 2^k - 1, and else the term with the number
-- n - 2^(k-1) + 1, for the k with 2^(k-1) <= n < 2^k - 1
pub data IsLuby : ℕ → ℕ → Type 0 where
  whole : (k n term : ℕ) → 1 ≤ k → n + 1 ≡ 2 ^ k → term ≡ 2 ^ (k - 1) → IsLuby n term
  rest : (k n term : ℕ) → 1 ≤ k → 2 ^ (k - 1) ≤ n → n + 1 < 2 ^ k →
      IsLuby (n - 2 ^ (k - 1) + 1) term → IsLuby n term
