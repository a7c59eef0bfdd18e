-- What the analysis of a false clause meets of a trail: the entries that make its literals false,
-- and of those whose reasons are used, what makes the reasons' other literals false.
use Rattle.std.specs.Prelude.{◌≡◌, ◌≢◌, ◌⊎◌, ℕ, ◌<◌, ◌≤◌, true, List, [], length, reverse, slice_get, take, Option, None, Some, Contains}
use Rattle.sat_clause.specs.declared.literal.Lit.{Lit}
use Rattle.sat_clause.specs.Literal.{Clause}
use Rattle.sat_arena.specs.declared.clause_ref.ClauseRef.{ClauseRef}
use Rattle.sat_watch.specs.declared.entry.TrailEntry.{TrailEntry}
use Rattle.sat_watch.specs.Trail.{AreWithin, IsOnce, place_in}
use Rattle.sat_watch.specs.Watched.{is_false}
use Rattle.sat_watch.specs.Watches.{Attached, HasLevels, IsPropagatedState, WatchState, lits_at}
use Rattle.sat_core.specs.Marks.{IsMet, IsUsed, MarkState, Meets, with_used}

-- the entry stands at the place, the oldest at 0
abbrev pub IsAt : List TrailEntry → ℕ → TrailEntry → Type 0
IsAt trail place e = slice_get (reverse trail) place ≡ Some e

-- the entry at the place is of this level
abbrev pub HasLevel : List TrailEntry → ℕ → ℕ → Type 0
HasLevel trail level place = (e : TrailEntry) × IsAt trail place e × (e.level ≡ level)

-- the place is that of a false literal of the clause
abbrev pub IsFalsePlace : List TrailEntry → Clause → ℕ → Type 0
IsFalsePlace trail lits place = (l : Lit) × Contains lits l × (is_false trail l ≡ true)
    × (place_in trail l ≡ Some place)

-- where a level was begun, a false literal of the clause is of the current one
abbrev pub HasCurrent : WatchState → Clause → Type 0
HasCurrent w lits = 1 ≤ w.level → (place : ℕ) × IsFalsePlace w.trail lits place
    × HasLevel w.trail w.level place

-- the literals of a reason
abbrev pub reason_lits : List Attached → Option ClauseRef → Clause
reason_lits clauses None = []
reason_lits clauses (Some c) = lits_at clauses c

-- the place is that of a false literal of the reason of the entry at another one
abbrev pub IsReasonPlace : WatchState → ℕ → ℕ → Type 0
IsReasonPlace w place other = (e : TrailEntry) × IsAt w.trail place e
    × IsFalsePlace w.trail (reason_lits w.clauses e.reason) other

-- the least of a place and of these that are of the level
pub record IsLeast (trail : List TrailEntry) (level : ℕ) (P : ℕ → Type 0) (before now : ℕ) : Type 0
  where
    pub down : now ≤ before
    pub is : (now ≡ before) ⊎ (P now × HasLevel trail level now)
    pub lowest : (place : ℕ) → P place → HasLevel trail level place → now ≤ place

-- the reason of the entry at a place is used: its false literals were met
pub record Uses (w : WatchState) (place : ℕ) (old new : MarkState) : Type 0 where
  pub between : MarkState
  pub meets : Meets (IsReasonPlace w place) old between
  pub is : new ≡ with_used place between
  pub here : IsUsed new place

-- the clause is the reason of the entry at the place
abbrev pub IsReasonAt : List TrailEntry → ℕ → ClauseRef → Type 0
IsReasonAt trail place c = (e : TrailEntry) × IsAt trail place e × (e.reason ≡ Some c)

-- the entry at the place has a reason
abbrev pub HasReason : List TrailEntry → ℕ → Type 0
HasReason trail place = (c : ClauseRef) × IsReasonAt trail place c

-- where a place was met from: the false clause, or the reason of a used one
abbrev pub HasSource : WatchState → Clause → MarkState → ℕ → Type 0
HasSource w conflict s place =
    IsFalsePlace w.trail conflict place ⊎ ((p : ℕ) × IsUsed s p × IsReasonPlace w p place)

-- a place of the current level is no unique implication point: an older one was met from the false
-- clause or from the reason of a newer one
abbrev pub IsNoPoint : WatchState → Clause → MarkState → ℕ → Type 0
IsNoPoint w conflict s p = (place : ℕ) × (place < p) × HasLevel w.trail w.level place
    × (IsFalsePlace w.trail conflict place
    ⊎ ((newer : ℕ) × (p < newer) × IsUsed s newer × IsReasonPlace w newer place))

-- what the analysis keeps: the false clause's literals were met, and those of the used reasons, and
-- nothing else; the used places have reasons, and none of them is a unique implication point
pub record IsAnalysis (w : WatchState) (conflict : Clause) (s : MarkState) : Type 0 where
  pub size : w.vars ≤ length s.met
  pub begun : (place : ℕ) → IsFalsePlace w.trail conflict place → IsMet s place
  pub whole : (p place : ℕ) → IsUsed s p → IsReasonPlace w p place → IsMet s place
  pub reasons : (p : ℕ) → IsUsed s p → HasReason w.trail p
  pub used_met : (p : ℕ) → IsUsed s p → IsMet s p
  pub sources : (place : ℕ) → IsMet s place → HasSource w conflict s place
  pub no_point : (p : ℕ) → IsUsed s p → 1 ≤ w.level → HasLevel w.trail w.level p →
      IsNoPoint w conflict s p

-- what is known of watches
pub record IsKnown (w : WatchState) : Type 0 where
  pub once : IsOnce w.trail
  pub within : AreWithin w.vars w.trail
  pub levels : HasLevels w.clauses w.level w.trail
  pub propagated : IsPropagatedState w

-- an analysis goes on: what it kept it keeps, and there are as many marks
pub record GoesOn (w : WatchState) (old new : MarkState) : Type 0 where
  pub size : length new.met ≡ length old.met
  pub kept : (conflict : Clause) → IsAnalysis w conflict old → IsAnalysis w conflict new

-- on the way from the newest entry down to a place, with the least met one of the current level
pub record IsWalk (w : WatchState) (s : MarkState) (place least : ℕ) : Type 0 where
  pub known : IsKnown w
  pub size : w.vars ≤ length s.met
  pub within : place < length w.trail
  pub down : least ≤ place
  pub met : IsMet s least
  pub current : HasLevel w.trail w.level least
  pub lowest : (p : ℕ) → IsMet s p → HasLevel w.trail w.level p → least ≤ p
  pub above : (p : ℕ) → IsUsed s p → place < p
  pub passed : (p : ℕ) → place < p → IsMet s p → HasLevel w.trail w.level p → IsUsed s p

-- the first unique implication point: the one place of the current level whose reason is not used
pub record IsPoint (w : WatchState) (s : MarkState) (point : ℕ) : Type 0 where
  pub met : IsMet s point
  pub current : HasLevel w.trail w.level point
  pub kept : IsUsed s point → ⊥
  pub others : (place : ℕ) → IsMet s place → HasLevel w.trail w.level place → place ≢ point →
      IsUsed s place

-- the places met are those of entries
abbrev pub AreOn : List TrailEntry → MarkState → Type 0
AreOn trail s = (place : ℕ) → IsMet s place → place < length trail

-- of so many places met, the first ones, those with a property are used
abbrev pub AreUsed : (ℕ → Type 0) → ℕ → MarkState → Type 0
AreUsed P i s = (place : ℕ) → Contains (take i s.places) place → P place → IsUsed s place

-- what an analysis ends with: each place of level 0 that was met is used, and of the current level
-- each but one
pub record IsAnalysed (w : WatchState) (conflict : Clause) (s : MarkState) (point : ℕ) : Type 0
  where
    pub known : IsKnown w
    pub analysis : IsAnalysis w conflict s
    pub zero : (place : ℕ) → IsMet s place → HasLevel w.trail 0 place → IsUsed s place
    pub current : 1 ≤ w.level → IsPoint w s point
