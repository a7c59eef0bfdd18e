-- What a group comes to.
use Rattle.std.specs.Prelude.{◌≡◌, ⊤, ℕ, false, List, Option, None, Some}
use Rattle.sat_clause.specs.declared.cause.Cause.{Cause}
use Rattle.sat_clause.specs.declared.literal.Lit.{Lit}
use Rattle.sat_clause.specs.Literal.{Clause}
use Rattle.sat_rat.specs.declared.resolution.Grouped.{Grouped}
use Rattle.sat_rat.specs.declared.resolution.Grouped.TheVariants.{Good, Refused}
use Rattle.sat_rat.specs.Counts.{times_in}
use Rattle.sat_rat.specs.FullRup.{has_id}

-- why it is refused; none where it is good
abbrev pub group_cause : Grouped → Option Cause
group_cause (Good count) = None
group_cause (Refused cause) = Some cause

-- a good one is for an id that had none, and counts how often its clause has the literal
abbrev pub HasCounted : Grouped → Lit → List ℕ → ℕ → Option Clause → Type 0
HasCounted (Good count) l had id clause = (has_id had id ≡ false) × (count ≡ times_in l clause)
HasCounted (Refused cause) l had id clause = ⊤
