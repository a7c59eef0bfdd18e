-- The steps of a log, as in LRAT: a clause is added with hints, or clauses are deleted.
use Rattle.std.specs.Prelude.{ℕ, ℤ, ⊤, List, [], ◌∷◌, All}
use Rattle.sat_clause.specs.Literal.{Clause, IsLiteral}

-- a clause under an id with the ids that justify it; or ids to delete, behind an unused number
pub data Step : Type 0 where
  Added : (id : ℕ) (clause : Clause) (hints : List ℤ) → Step
  Erased : (id : ℕ) (ids : List ℤ) → Step

-- the clauses that a step adds have literals, which are not zero
abbrev pub HasLiterals : Step → Type 0
HasLiterals (Added id clause hints) = All IsLiteral clause
HasLiterals (Erased id ids) = ⊤

-- and so have those of each step
abbrev pub HaveLiterals : List Step → Type 0
HaveLiterals [] = ⊤
HaveLiterals (step ∷ steps) = HasLiterals step × HaveLiterals steps
