-- The clauses that the ids of a log stand for, where the ids of the added clauses rise: whatever is
-- deleted, and wherever in the log one looks.
use Rattle.std.specs.Prelude.{◌≡◌, ℕ, zero, suc, ℤ, pos, negsuc, ◌==◌, nat_le, List, [], ◌∷◌, length, Option, Some, None, if◌then◌else◌}
use Rattle.sat_clause.specs.Formula.{Cnf}
use Rattle.sat_clause.specs.Judge.{inputs}
use Rattle.sat_clause.specs.Literal.{Clause}
use Rattle.sat_clause.specs.Live.{clause_at}
use Rattle.sat_clause.specs.Learned.{live_before}
use Rattle.sat_clause.specs.Step.{Step, Added, Erased}
use Rattle.route_core.specs.Trimmed.{AddedRise}

-- the clause of the first step that adds one under this id
abbrev pub added_under : List Step → ℕ → Option Clause
added_under [] id = None
added_under (Added other clause hints ∷ steps) id =
    if id == other then Some clause else added_under steps id
added_under (Erased other ids ∷ steps) id = added_under steps id

-- the input clause with the id, or the added one
abbrev pub said_under : Cnf → List Step → ℕ → Option Clause
said_under formula log id = if nat_le id (length formula.clauses)
    then clause_at (inputs formula) id else added_under log id

-- where, from this place on, the first step stands that adds a clause under this id
abbrev pub place_from : ℕ → List Step → ℕ → Option ℕ
place_from k [] id = None
place_from k (Added other clause hints ∷ steps) id =
    if id == other then Some k else place_from (suc k) steps id
place_from k (Erased other ids ∷ steps) id = place_from (suc k) steps id

-- where the first step stands that adds a clause under the id that a hint names; a number that is
-- zero or negative names none
abbrev pub place_named : List Step → ℤ → Option ℕ
place_named log (pos zero) = None
place_named log (pos (suc n)) = place_from 0 log (suc n)
place_named log (negsuc n) = None

-- what is live before a step is the clause that its id stands for
abbrev pub LiveIsSaid : Cnf → List Step → Type 0
LiveIsSaid formula log = AddedRise (length formula.clauses) log → (k id : ℕ) (clause : Clause)
    → clause_at (live_before formula log k) id ≡ Some clause
    → said_under formula log id ≡ Some clause
