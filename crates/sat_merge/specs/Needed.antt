-- Hints that lead to a false clause, and are needed for it.
use Rattle.std.specs.Prelude.{◌≡◌, ◌⊎◌, ℤ, List, [], ◌∷◌, All, Any, IsTrue, ⊤}
use Rattle.sat_clause.specs.declared.literal.Lit.{Lit}
use Rattle.sat_clause.specs.declared.reading.Reading.TheVariants.{Conflict, Unit}
use Rattle.sat_clause.specs.Learned.{HintHas}
use Rattle.sat_clause.specs.Literal.{Clause, is_among, negation}
use Rattle.sat_clause.specs.Live.{Live, named}
use Rattle.sat_clause.specs.Rup.{Reads}

-- each hint but the last makes its unit true, and the clause of the last is false
abbrev pub AreRead : Live → List Lit → List ℤ → List Lit → Type 0
AreRead live set [] units = ⊥
AreRead live set (h ∷ hints) [] = (hints ≡ []) × Reads set (named live h) Conflict
AreRead live set (h ∷ hints) (l ∷ units) = Reads set (named live h) (Unit l)
    × AreRead live (negation l ∷ set) hints units

-- the negation of each unit stands in the clause of a hint behind the one at its place
abbrev pub AreNeeded : Live → List Lit → List ℤ → Type 0
AreNeeded live [] hints = ⊤
AreNeeded live (l ∷ units) [] = ⊤
AreNeeded live (l ∷ units) (h ∷ hints) = Any (HintHas live (negation l)) hints
    × AreNeeded live units hints

-- each literal of the clause is among these
abbrev pub AreMet : List Lit → Clause → Type 0
AreMet met clause = All (λ l. IsTrue (is_among met l)) clause

-- what is met now was met before, or is among the clause
abbrev pub MeetsSome : (before : List Lit) → Clause → (now : List Lit) → Type 0
MeetsSome before clause now = (l : Lit) → IsTrue (is_among now l) →
    IsTrue (is_among clause l) ⊎ IsTrue (is_among before l)

-- the hints are needed for their units, and what was met stands in their clauses
pub record IsMeeting (live : Live) (met units : List Lit) (hints : List ℤ) : Type 0 where
  pub needed : AreNeeded live units hints
  pub stands : (l : Lit) → IsTrue (is_among met l) → Any (HintHas live l) hints
