-- What is wanted of literals for one step after another, in a table with a number for each literal.
use Rattle.std.specs.Prelude.{◌≡◌, ℕ, ◌+◌, ◌*◌, ◌<◌, ◌≤◌, ◌^◌, ◌==◌, nat_lt, Bool, not, ◌&&◌, List, length, slice_index_or, if◌then◌else◌}
use Rattle.sat_clause.specs.declared.limits.TheConstants.{LITERAL_LIMIT}
use Rattle.sat_clause.specs.declared.literal.Lit.{Lit}
use Rattle.sat_clause.specs.Literal.{Clause, is_among}
use Rattle.sat_check.specs.FalseStore.{slot_of}

-- the greatest variable, the number of the step, and the table
pub record WantedState : Type 0 where
  pub size : ℕ
  pub stamp : ℕ
  pub table : List ℕ

-- what a table has for a literal
abbrev pub told : List ℕ → Lit → ℕ
told table m = slice_index_or table (slot_of m.code) 0

-- a literal of the step's own clause has the number of the step
abbrev pub is_own : WantedState → Lit → Bool
is_own w m = told w.table m == w.stamp

-- one that is wanted has the number behind it
abbrev pub is_wanted : WantedState → Lit → Bool
is_wanted w m = told w.table m == w.stamp + 1

-- the table has a place for each literal, and no number above these two
pub record IsWantedStore (size stamp : ℕ) (table : List ℕ) : Type 0 where
  pub many : 2 * size + 2 ≤ length table
  pub few : size ≤ LITERAL_LIMIT
  pub room : stamp + 1 < 2 ^ 32
  pub most : (m : Lit) → told table m ≤ stamp + 1

-- the number of a literal once those of the step's own clause have its number
abbrev pub own_by : ℕ → Bool → ℕ → ℕ
own_by stamp among n = if among then stamp else n

-- and once those of a clause are wanted that have a lower one
abbrev pub wanted_by : ℕ → Bool → ℕ → ℕ
wanted_by stamp among n = if among && nat_lt n stamp then stamp + 1 else n

-- it tells, for a step with this clause, that these literals are wanted but for those of the clause
pub record Tells (own : Clause) (wanted : List Lit) (w : WantedState) : Type 0 where
  pub own_told : (m : Lit) → is_own w m ≡ is_among own m
  pub wanted_told : (m : Lit) → is_wanted w m ≡ (is_among wanted m && not (is_among own m))
