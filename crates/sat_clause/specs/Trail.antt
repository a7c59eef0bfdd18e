-- A trail: the literals that are made true, the newest first.
use Rattle.std.specs.Prelude.{◌≡◌, ◌≢◌, ℕ, true, false, ⊤, List, [], ◌∷◌, map, All}
use Rattle.sat_clause.specs.declared.literal.Lit.{Lit}
use Rattle.sat_clause.specs.Literal.{IsWithin, is_among, negation, variable}

-- the literals that it makes false
abbrev pub falses : List Lit → List Lit
falses trail = map negation trail

-- none of its literals is of this one's variable
abbrev pub IsOpen : List Lit → Lit → Type 0
IsOpen trail l = All (λ m. variable m ≢ variable l) trail

-- each of its literals is of a variable that was open before it
abbrev pub IsOnce : List Lit → Type 0
IsOnce [] = ⊤
IsOnce (l ∷ older) = IsOpen older l × IsOnce older

-- each literal of the variables 1 to n is false, or its negation is
abbrev pub IsClosed : ℕ → List Lit → Type 0
IsClosed n trail = (l : Lit) → IsWithin n l → is_among (falses trail) l ≡ false →
    is_among (falses trail) (negation l) ≡ true
