-- Which clauses may be deleted.
use Rattle.std.specs.Prelude.{◌≡◌, ◌==◌, ◌<◌, ◌&&◌, ◌∷◌, ◌⊎◌, nat_lt, not, ℕ, Bool, true, false, if◌then◌else◌, List, [], map, Option, None, Some}
use Rattle.std.specs.List.{filter}
use Rattle.sat_clause.specs.declared.literal.Lit.{Lit}
use Rattle.sat_clause.specs.Literal.{variable}
use Rattle.sat_arena.specs.declared.clause_ref.ClauseRef.{ClauseRef}
use Rattle.sat_watch.specs.declared.entry.TrailEntry.{TrailEntry}
use Rattle.sat_watch.specs.Delete.{IsNoReason}
use Rattle.sat_watch.specs.Watches.{Attached, WatchState, id_at, is_attached}
use Rattle.sat_core.specs.declared.choosing.Candidate.{Candidate}

-- the reason is this clause
abbrev pub are_same : Option ClauseRef → ClauseRef → Bool
are_same None c = false
are_same (Some r) c = r.word == c.word

-- the reason for the value of a literal's variable
abbrev pub reason_in : List TrailEntry → Lit → Option ClauseRef
reason_in [] l = None
reason_in (e ∷ older) l = if variable e.lit == variable l then e.reason else reason_in older l

-- one of the entries has the clause as its reason
abbrev pub is_reason : List TrailEntry → ClauseRef → Bool
is_reason [] c = false
is_reason (e ∷ older) c = if are_same e.reason c then true else is_reason older c

-- the clause may be deleted: it is attached under an id above this one, and is no reason
pub record IsDeletable (w : WatchState) (above : ℕ) (c : ClauseRef) : Type 0 where
  pub attached : is_attached w.clauses c ≡ true
  pub learned : above < id_at w.clauses c
  pub no_reason : IsNoReason w.trail c

-- the same of an attached one, as a test
abbrev pub is_deletable : WatchState → ℕ → ClauseRef → Bool
is_deletable w above c = nat_lt above (id_at w.clauses c) && not (is_reason w.trail c)

-- the references of clauses, in their order
abbrev pub places_of : List Attached → List ClauseRef
places_of ks = map (λ k. k.place) ks

-- those that may be deleted
abbrev pub deletable : WatchState → ℕ → List ClauseRef
deletable w above = filter (is_deletable w above) (places_of w.clauses)

-- the references of candidates
abbrev pub refs_of : List Candidate → List ClauseRef
refs_of candidates = map (λ k. k.clause) candidates

module _ {X : Type 0} where
  -- some of the elements, in their order
  abbrev pub ArePartOf : List X → List X → Type 0
  ArePartOf part [] = part ≡ []
  ArePartOf part (x ∷ xs) =
      ArePartOf part xs ⊎ ((rest : List X) × (part ≡ x ∷ rest) × ArePartOf rest xs)
