-- Levels of a count: so many tracks, and one slot more.
use Rattle.std.specs.Prelude.{◌≢◌, ℕ, ◌+◌, ◌≤◌, ◌<◌, List, slice_index}
use Rattle.sat_count.specs.Places.{apart_id, name, not_both, some_clause, some_id}
use Rattle.sat_count.specs.Refuting.{AreLive, Holds, RefutationState}
use Rattle.sat_count.specs.declared.level.Level.{Level}

-- each slot has a track, and no two have one, by clauses that stand behind an id; the variables of
-- different slots differ, and all that stands behind the id is live
pub record Stands (r : RefutationState) (tracks behind : ℕ) (firsts : List ℕ) : Type 0 where
  pub some : (place : ℕ) → place ≤ tracks
      → Holds r (some_id behind place) (some_clause (slice_index firsts place) tracks)
  pub apart : (lower higher track : ℕ) → lower < higher → higher ≤ tracks → track < tracks
      → Holds r (apart_id behind tracks lower higher track)
      (not_both (name firsts lower track) (name firsts higher track))
  pub differ : (lower higher t u : ℕ) → lower < higher → higher ≤ tracks → t < tracks → u < tracks
      → name firsts lower t ≢ name firsts higher u
  pub low : (place : ℕ) → place ≤ tracks → slice_index firsts place + tracks ≤ r.last_variable
  pub behind_last : behind ≤ r.last_id
  pub live : AreLive r behind r.last_id

-- the level stands
abbrev pub IsLevel : RefutationState → Level → Type 0
IsLevel r level = Stands r level.tracks level.behind level.firsts.items
