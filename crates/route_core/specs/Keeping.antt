-- The way back over a log: which of its steps are kept.
use Rattle.std.specs.Prelude.{◌≡◌, ℕ, ◌<◌, ◌==◌, ℤ, Bool, true, false, ◌||◌, List, [], ◌∷◌, ◌++◌, length, drop, Option, None, Some, slice_get, slice_index_or}
use Rattle.std.specs.List.{list_any}
use Rattle.std.specs.Option.{option_map_or}
use Rattle.sat_clause.specs.Formula.{Cnf}
use Rattle.sat_clause.specs.Judge.{is_empty_clause}
use Rattle.sat_clause.specs.Learned.{live_before}
use Rattle.sat_clause.specs.Literal.{Clause}
use Rattle.sat_clause.specs.Rup.{rup}
use Rattle.sat_clause.specs.Step.{Step, Added, Erased}
use Rattle.route_core.specs.Blamed.{is_hint}
use Rattle.route_core.specs.Needed.{needed_from}
use Rattle.route_core.specs.Sources.{place_named}
use Rattle.route_core.specs.Trimming.{needed_steps}

-- the needed steps among those from a place on
abbrev pub needed_behind : Cnf → List Step → ℕ → List Step
needed_behind formula log k = needed_steps (live_before formula log k) (drop k log)

-- the hint names the step at the place
abbrev pub names : List Step → ℕ → ℤ → Bool
names log j h = option_map_or (λ place. place == j) (place_named log h) false

-- the step adds a clause whose id is a hint of these
abbrev pub is_wanted : List Step → Option Step → Bool
is_wanted later None = false
is_wanted later (Some (Added id clause hints)) = is_hint later id
is_wanted later (Some (Erased id ids)) = false

-- the steps before the place are marked whose ids are hints of these
abbrev pub AreMarked : List Step → List Step → ℕ → List Bool → Type 0
AreMarked log later at marks = (j : ℕ) → j < at
    → slice_index_or marks j false ≡ is_wanted later (slice_get log j)

-- the first step that adds the empty clause stands at the place
pub record IsFirstEmpty (log : List Step) (at : ℕ) : Type 0 where
  pub within : at < length log
  pub empty : (step : Step) → slice_get log at ≡ Some step → is_empty_clause step ≡ true
  pub first : (k : ℕ) (step : Step) → k < at → slice_get log k ≡ Some step
      → is_empty_clause step ≡ false

-- the step at the place adds a clause, and is good
pub record IsGoodAt (formula : Cnf) (log : List Step) (at : ℕ) : Type 0 where
  pub id : ℕ
  pub clause : Clause
  pub hints : List ℤ
  pub step : slice_get log at ≡ Some (Added id clause hints)
  pub good : rup (live_before formula log at) clause hints ≡ None

-- the step at the place was added to the others with the hints that it needs, and the steps that
-- these name are marked
pub record KeepsStep (formula : Cnf) (log : List Step) (at : ℕ) (old new : List Step)
    (before after : List Bool) : Type 0 where
  pub many : length after ≡ length before
  pub steps : (id : ℕ) (clause : Clause) (hints : List ℤ)
      → slice_get log at ≡ Some (Added id clause hints)
      → new ≡ old ++ Added id clause (needed_from (live_before formula log at) clause hints).hints
      ∷ []
  pub marks : (id : ℕ) (clause : Clause) (hints : List ℤ)
      → slice_get log at ≡ Some (Added id clause hints) → (j : ℕ) → j < length before
      → slice_index_or after j false ≡ (slice_index_or before j false
      || list_any (names log j) (needed_from (live_before formula log at) clause hints).hints)
