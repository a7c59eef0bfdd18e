-- What the first level of a count is made of.
use Rattle.std.specs.Prelude.{◌≢◌, ℕ, ◌+◌, ◌≤◌, ◌<◌, List, All, slice_index}
use Rattle.sat_clause.specs.Literal.{Clause}
use Rattle.sat_count.specs.Places.{name, not_both, some_clause}
use Rattle.sat_count.specs.Refuting.{RefutationState}

-- so many variables from each of these on are different ones
abbrev pub AreApart : (tracks : ℕ) → (firsts : List ℕ) → Type 0
AreApart tracks firsts = (lower higher t u : ℕ) → lower < higher → higher ≤ tracks → t < tracks
    → u < tracks → name firsts lower t ≢ name firsts higher u

-- so many variables from each of these on stand in the refutation
abbrev pub IsBelow : RefutationState → (tracks : ℕ) → (firsts : List ℕ) → Type 0
IsBelow r tracks firsts = All (λ first. first + tracks ≤ r.last_variable) firsts

-- a slot of the first level has a track
abbrev pub first_some : (tracks : ℕ) → (firsts : List ℕ) → (place : ℕ) → Clause
first_some tracks firsts place = some_clause (slice_index firsts place) tracks

-- two slots of it do not both have a track
abbrev pub first_apart : (firsts : List ℕ) → (lower higher track : ℕ) → Clause
first_apart firsts lower higher track =
    not_both (name firsts lower track) (name firsts higher track)
