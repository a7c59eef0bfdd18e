-- When a search goes back to level 0.
use Rattle.std.specs.Prelude.{◌≡◌, ℕ, ◌+◌, ◌*◌}
use Rattle.sat_order.specs.Luby.{IsLuby}

-- how many terms of Luby's sequence were taken, and behind how many conflicts the next restart
-- comes
pub record RestartState : Type 0 where
  pub given : ℕ
  pub next : ℕ

-- 64 times the term behind so many
abbrev pub IsWait : ℕ → ℕ → Type 0
IsWait given wait = (term : ℕ) × IsLuby (given + 1) term × (wait ≡ 64 * term)

-- one more term was taken, and the restart comes so many conflicts behind these
pub record IsNextRestart (conflicts given : ℕ) (now : RestartState) : Type 0 where
  pub given_is : now.given ≡ given + 1
  pub wait : ℕ
  pub is : IsWait given wait
  pub next : now.next ≡ conflicts + wait
