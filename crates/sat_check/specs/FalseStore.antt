-- A set of false literals: what contracts see, and how it lies in marks and a list of the marked.
use Rattle.std.specs.Prelude.{◌≡◌, ℕ, ◌+◌, ◌*◌, ◌≤◌, ℤ, pos, negsuc, List, [], length, All, Vec, reverse}
use Rattle.std.specs.Global.{Global}
use Rattle.sat_clause.specs.declared.limits.TheConstants.{LITERAL_LIMIT}
use Rattle.sat_clause.specs.declared.literal.Lit.{Lit}
use Rattle.sat_check.specs.Bits.{is_set}
use Rattle.sat_clause.specs.Literal.{IsWithin, is_among}

-- the number of variables that it can hold, and its literals, the newest first
pub record FalseState : Type 0 where
  pub size : ℕ
  pub set : List Lit

-- the place of a signed number: an even one for a variable, an odd one for a negation
abbrev pub slot_of : ℤ → ℕ
slot_of (pos n) = 2 * n
slot_of (negsuc n) = 2 * n + 3

-- the marks say which literals are on the trail
pub record IsFalseStore (size : ℕ) (marks : List ℕ) (trail : Vec Lit Global) : Type 0 where
  pub many : 2 * size + 2 ≤ 64 * length marks
  pub within : All (IsWithin size) trail.items
  pub few : size ≤ LITERAL_LIMIT
  pub marked : (l : Lit) → is_set marks (slot_of l.code) ≡ is_among (reverse trail.items) l

-- the set is empty, and has the variables of the live clauses
pub record IsReady (vars : ℕ) (set : FalseState) : Type 0 where
  pub size : set.size ≡ vars
  pub empty : set.set ≡ []
