-- The clauses that a search keeps of the live ones, by their ids and as sets of literals.
use Rattle.std.specs.Prelude.{◌≡◌, ◌≢◌, ℕ, ◌<◌, ◌≤◌, Bool, true, false, AllPairs, Some}
use Rattle.std.specs.List.{list_any}
use Rattle.sat_clause.specs.Literal.{Clause, is_among, negation, variable}
use Rattle.sat_clause.specs.Learned.{SameLiterals}
use Rattle.sat_clause.specs.Live.{Live, clause_at}

-- a literal and its negation stand in the clause
abbrev pub is_always_true : Clause → Bool
is_always_true clause = list_any (λ l. is_among clause (negation l)) clause

-- no variable stands in the clause twice
abbrev pub HasOnce : Clause → Type 0
HasOnce clause = AllPairs (λ a b. variable a ≢ variable b) clause

-- by their ids and as sets of literals the kept clauses are among the live ones
abbrev pub AreAmong : (kept live : Live) → Type 0
AreAmong kept live = (id : ℕ) (c : Clause) → clause_at kept id ≡ Some c →
    (d : Clause) × (clause_at live id ≡ Some d) × SameLiterals c d

-- the kept clauses are the live ones without those that are always true, each literal once
pub record AreKept (kept live : Live) : Type 0 where
  pub are_live : AreAmong kept live
  pub are_all : (id : ℕ) (d : Clause) → clause_at live id ≡ Some d → is_always_true d ≡ false →
      (c : Clause) × (clause_at kept id ≡ Some c) × SameLiterals c d
  pub once : (id : ℕ) (c : Clause) → clause_at kept id ≡ Some c → HasOnce c

-- the same clauses by their ids
abbrev pub SameLive : Live → Live → Type 0
SameLive live now = (id : ℕ) → clause_at live id ≡ clause_at now id

-- each id is at least 1 and below this one
abbrev pub AreBelow : ℕ → Live → Type 0
AreBelow id live = (n : ℕ) (c : Clause) → clause_at live n ≡ Some c → (1 ≤ n) × (n < id)

-- these are the different literals of a clause, where the answer is true; else it is always true
abbrev pub IsDistinct : Clause → Clause → Bool → Type 0
IsDistinct clause kept false = is_always_true clause ≡ true
IsDistinct clause kept true = SameLiterals kept clause × HasOnce kept
