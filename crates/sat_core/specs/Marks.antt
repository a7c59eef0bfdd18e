-- The places of a trail that the analysis of a false clause has met, and those that it has used.
use Rattle.std.specs.Prelude.{◌≡◌, ◌≢◌, ◌⊎◌, ℕ, ◌≤◌, Bool, true, false, List, [], ◌++◌, length, slice_index_or, slice_set, Contains, AllPairs, Vec, vec_len, vec_capacity}
use Rattle.std.specs.Global.{Global}
use Rattle.sat_clause.specs.declared.limits.TheConstants.{VARIABLE_LIMIT}

-- a mark for each place that was met, and one for each whose reason was used; and the places met
pub record MarkState : Type 0 where
  pub met : List Bool
  pub used : List Bool
  pub places : List ℕ

-- the place was met
abbrev pub IsMet : MarkState → ℕ → Type 0
IsMet s place = slice_index_or s.met place false ≡ true

-- its reason was used
abbrev pub IsUsed : MarkState → ℕ → Type 0
IsUsed s place = slice_index_or s.used place false ≡ true

-- no place was met
pub record IsClean (s : MarkState) : Type 0 where
  pub none_met : (place : ℕ) → slice_index_or s.met place false ≡ false
  pub none_used : (place : ℕ) → slice_index_or s.used place false ≡ false
  pub none : s.places ≡ []

-- no place was met, and there are marks for a place of each variable
pub record IsReady (vars : ℕ) (s : MarkState) : Type 0 where
  pub clean : IsClean s
  pub size : vars ≤ length s.met

-- the places met are listed, each once, and a used one was met
pub record AreMarks (s : MarkState) : Type 0 where
  pub many : length s.used ≡ length s.met
  pub listed : (place : ℕ) → IsMet s place → Contains s.places place
  pub met : (place : ℕ) → Contains s.places place → IsMet s place
  pub once : AllPairs (λ a b. a ≢ b) s.places
  pub used_met : (place : ℕ) → IsUsed s place → IsMet s place

-- so do the marks of a store, in which there is room for all places
pub record IsMarkStore (met used : Vec Bool Global) (places : Vec ℕ Global) : Type 0 where
  pub marks : AreMarks (record { met = met.items; used = used.items; places = places.items })
  pub room : vec_len met ≤ vec_capacity places
  pub few : vec_len met ≤ VARIABLE_LIMIT

-- these places were met too, and no others
pub record Meets (P : ℕ → Type 0) (old new : MarkState) : Type 0 where
  pub size : length new.met ≡ length old.met
  pub used : new.used ≡ old.used
  pub added : List ℕ
  pub places : new.places ≡ old.places ++ added
  pub kept : (place : ℕ) → IsMet old place → IsMet new place
  pub all : (place : ℕ) → P place → IsMet new place
  pub only : (place : ℕ) → IsMet new place → IsMet old place ⊎ P place

-- a place's reason is used
abbrev pub with_used : ℕ → MarkState → MarkState
with_used place s = record s { used = slice_set s.used place true }

-- the places are listed in another order
abbrev pub with_places : List ℕ → MarkState → MarkState
with_places places s = record s { places = places }
