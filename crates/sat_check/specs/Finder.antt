-- Clauses by their ids, as what they answer to an id.
use Rattle.std.specs.Prelude.{◌≡◌, ℕ, zero, suc, ◌==◌, if◌then◌else◌, ℤ, pos, negsuc, All, Option, None, Some}
use Rattle.sat_clause.specs.Literal.{Clause, IsWithin}
use Rattle.sat_clause.specs.Live.{Live, clause_at}

-- clauses by their ids: the clause with an id, where there is one
abbrev pub Finder : Type 0
Finder = ℕ → Option Clause

-- these are the live clauses
abbrev pub Finds : Finder → Live → Type 0
Finds find live = (id : ℕ) → find id ≡ clause_at live id

-- the clause that a hint or a deletion names; a number that is zero or negative names none
abbrev pub named_by : Finder → ℤ → Option Clause
named_by find (pos zero) = None
named_by find (pos (suc n)) = find (suc n)
named_by find (negsuc n) = None

-- what has the id becomes this, and each other clause stays
abbrev pub Changes : (old new : Finder) → ℕ → Option Clause → Type 0
Changes old new id value = (q : ℕ) → new q ≡ (if id == q then value else old q)

-- the clauses have the variables 1 to n alone
abbrev pub AllWithin : ℕ → Finder → Type 0
AllWithin n find = (id : ℕ) (clause : Clause) → find id ≡ Some clause → All (IsWithin n) clause
