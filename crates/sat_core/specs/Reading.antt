-- What an analysis comes to: a clause, and the ids of the clauses that it follows from.
use Rattle.std.specs.Prelude.{◌≡◌, ◌≢◌, ℕ, ◌<◌, ◌≤◌, ℤ, pos, false, List, [], ◌∷◌, ◌++◌, reverse, slice_index_or, None, option_map, Contains, AllPairs, flat_map}
use Rattle.sat_clause.specs.declared.literal.Lit.{Lit}
use Rattle.sat_clause.specs.Literal.{Clause, lit, negation}
use Rattle.sat_watch.specs.declared.entry.TrailEntry.{TrailEntry}
use Rattle.sat_watch.specs.Watches.{WatchState, id_at}
use Rattle.sat_core.specs.Analysis.{IsAnalysed, IsAt}
use Rattle.sat_core.specs.Kept.{HasOnce}
use Rattle.sat_core.specs.Levels.{marked_reason}
use Rattle.sat_core.specs.Marks.{AreMarks, IsUsed, MarkState}

-- the literal at the place is learned: its reason is not used, and it is not the point
abbrev pub IsLower : MarkState → ℕ → ℕ → Type 0
IsLower s point place = (IsUsed s place → ⊥) × (place ≢ point)

-- the clause has the negations of the entries at these places that are learned, each variable once,
-- and `back` is the highest of their levels
pub record AreLearned
    (w : WatchState) (s : MarkState) (point : ℕ) (places : List ℕ) (clause : Clause) (back : ℕ)
    : Type 0 where
  pub inside : (l : Lit) → Contains clause l → (place : ℕ) × (e : TrailEntry)
      × Contains places place × IsLower s point place × IsAt w.trail place e × (negation e.lit ≡ l)
  pub whole : (place : ℕ) (e : TrailEntry) → Contains places place → IsLower s point place →
      IsAt w.trail place e → Contains clause (negation e.lit)
  pub once : HasOnce clause
  pub most : (place : ℕ) (e : TrailEntry) → Contains places place → IsLower s point place →
      IsAt w.trail place e → e.level ≤ back
  pub highest : 1 ≤ back → (place : ℕ) × (e : TrailEntry) × Contains places place
      × IsLower s point place × IsAt w.trail place e × (e.level ≡ back)

-- the reason of the entry at a place
abbrev pub entry_at : List TrailEntry → ℕ → TrailEntry
entry_at trail place =
    slice_index_or (reverse trail) place
    (record { lit = lit (pos 0); level = 0; reason = None })

-- the id of the reason at a place, where it is used
abbrev pub hint_at : WatchState → MarkState → ℕ → List ℤ
hint_at w s place = marked_reason (slice_index_or s.used place false)
    (option_map (id_at w.clauses) (entry_at w.trail place).reason)

-- one more literal: the negation of the entry at a place
abbrev pub EndsIn : List TrailEntry → Clause → ℕ → Clause → Type 0
EndsIn trail front place clause = (e : TrailEntry) × IsAt trail place e
    × (clause ≡ front ++ negation e.lit ∷ [])

-- what is learned by these marks
pub record HasLearnedClause
    (w : WatchState) (s : MarkState) (point id : ℕ) (clause : Clause) (hints : List ℤ) (back : ℕ)
    : Type 0 where
  pub lower : Clause
  pub learned : AreLearned w s point s.places lower back
  pub zero : w.level ≡ 0 → clause ≡ lower
  pub more : 1 ≤ w.level → EndsIn w.trail lower point clause
  pub hints_are : hints ≡ flat_map (hint_at w s) s.places ++ pos id ∷ []

-- it comes of the analysis of this clause
pub record IsFound
    (w : WatchState) (conflict : Clause) (id : ℕ) (clause : Clause) (hints : List ℤ) (back : ℕ)
    : Type 0 where
  pub s : MarkState
  pub point : ℕ
  pub marks : AreMarks s
  pub rising : AllPairs (λ a b. a < b) s.places
  pub analysed : IsAnalysed w conflict s point
  pub learned_clause : HasLearnedClause w s point id clause hints back
