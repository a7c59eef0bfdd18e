-- The live clauses, a finite map from ids to clauses: of the entries with an id the first counts.
use Rattle.std.specs.Prelude.{ℕ, zero, suc, ◌==◌, not, ℤ, pos, negsuc, List, [], ◌∷◌, Option, None, filter}
use Rattle.std.specs.Map.{lookup}
use Rattle.sat_clause.specs.Literal.{Clause}

-- ids with their clauses
abbrev pub Live : Type 0
Live = List (ℕ × Clause)

-- the live clause with this id
abbrev pub clause_at : Live → ℕ → Option Clause
clause_at live id = lookup (λ k. id == k) live

-- the clause becomes live under this id, in place of any other
abbrev pub put : Live → ℕ → Clause → Live
put live id clause = (id, clause) ∷ live

-- no clause is live under this id any more
abbrev pub without : Live → ℕ → Live
without live id = filter (λ entry. not (id == entry.0)) live

-- the live clause that a hint or a deletion names; a number that is zero or negative names none
abbrev pub named : Live → ℤ → Option Clause
named live (pos zero) = None
named live (pos (suc n)) = clause_at live (suc n)
named live (negsuc n) = None

-- the clauses of a list, with the ids from this one on
abbrev pub numbered : ℕ → List Clause → Live
numbered id [] = []
numbered id (clause ∷ clauses) = (id, clause) ∷ numbered (suc id) clauses
