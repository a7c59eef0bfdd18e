-- Reverse unit propagation along given hints: the part of LRAT that needs no pivot.
use Rattle.std.specs.Prelude.{◌≡◌, if◌then◌else◌, ℤ, List, [], ◌∷◌, Option, None, Some}
use Rattle.sat_clause.specs.declared.literal.Lit.{Lit}
use Rattle.sat_clause.specs.declared.cause.Cause.{Cause}
use Rattle.sat_clause.specs.declared.cause.Cause.TheVariants.{NotLive, StillOpen, AlreadyTrue, NoConflict, HintAfterConflict}
use Rattle.sat_clause.specs.declared.reading.Reading.{Reading}
use Rattle.sat_clause.specs.declared.reading.Reading.TheVariants.{Conflict, Unit, Satisfied, Unresolved}
use Rattle.sat_clause.specs.Literal.{Clause, negation, is_among}
use Rattle.sat_clause.specs.Live.{Live, named}

-- the different literals of a clause that are not among the false ones, in their order
abbrev pub open_literals : List Lit → Clause → List Lit
open_literals set [] = []
open_literals set (l ∷ ls) =
    if is_among set l then open_literals set ls else l ∷ open_literals (l ∷ set) ls

-- by its open literals: none is a conflict, one is a unit, or already true if its negation is false
abbrev pub reading_by : List Lit → List Lit → Reading
reading_by set [] = Conflict
reading_by set (l ∷ []) = if is_among set (negation l) then Satisfied else Unit l
reading_by set (l ∷ m ∷ ls) = Unresolved

-- what a clause says where these literals are false
abbrev pub reading_of : List Lit → Clause → Reading
reading_of set clause = reading_by set (open_literals set clause)

-- there is a clause, and it says this
abbrev pub Reads : List Lit → Option Clause → Reading → Type 0
Reads set None reading = ⊥
Reads set (Some clause) reading = reading_of set clause ≡ reading

-- no hint may follow a conflict
abbrev pub after_conflict : List ℤ → Option Cause
after_conflict [] = None
after_conflict (h ∷ hints) = Some HintAfterConflict

-- a clause ends the hints well or with a cause, or makes a literal true and leads on from there
abbrev pub lead_on : Reading → List ℤ → (Lit → Option Cause) → Option Cause
lead_on Conflict hints next = after_conflict hints
lead_on (Unit l) hints next = next l
lead_on Satisfied hints next = Some AlreadyTrue
lead_on Unresolved hints next = Some StillOpen

-- a hint names no live clause, or the hints go on from what its clause says
abbrev pub follow : List Lit → Option Clause → List ℤ → (Lit → Option Cause) → Option Cause
follow set None hints next = Some NotLive
follow set (Some clause) hints next = lead_on (reading_of set clause) hints next

-- why the hints, in order, do not lead from these false literals to a conflict; none where they do
abbrev pub rup : Live → List Lit → List ℤ → Option Cause
rup live set [] = Some NoConflict
rup live set (h ∷ hints) =
    follow set (named live h) hints (λ l. rup live (negation l ∷ set) hints)
