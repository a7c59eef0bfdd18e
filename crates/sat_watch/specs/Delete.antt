-- What is left once clauses are deleted.
use Rattle.std.specs.Prelude.{◌≡◌, ◌≢◌, ℕ, ◌+◌, ◌==◌, true, false, if◌then◌else◌, List, [], ◌∷◌, length, map, Option, None, Some, All}
use Rattle.sat_arena.specs.declared.clause_ref.ClauseRef.{ClauseRef}
use Rattle.sat_arena.specs.Store.{ref}
use Rattle.sat_watch.specs.declared.entry.TrailEntry.{TrailEntry}
use Rattle.sat_watch.specs.Chains.{is_in}
use Rattle.sat_watch.specs.Watches.{Attached, WatchState, id_at, is_attached, lits_at}

-- the clauses but those with these references, in their order
abbrev pub without : List ClauseRef → List Attached → List Attached
without refs [] = []
without refs (k ∷ ks) = if is_in refs k.place then without refs ks else k ∷ without refs ks

-- the clauses with new references: the first at this word, each next one behind the one before
abbrev pub placed_anew : ℕ → List Attached → List Attached
placed_anew at [] = []
placed_anew at (k ∷ ks) =
    record k { place = ref at } ∷ placed_anew (at + (length k.lits + 6)) ks

-- the new reference of one of them
abbrev pub moved_to : ℕ → List Attached → ClauseRef → Option ClauseRef
moved_to at [] c = None
moved_to at (k ∷ ks) c =
    if k.place.word == c.word then Some (ref at) else moved_to (at + (length k.lits + 6)) ks c

-- the reference of a reason, moved
abbrev pub reason_moved : (ClauseRef → Option ClauseRef) → Option ClauseRef → Option ClauseRef
reason_moved to None = None
reason_moved to (Some c) = to c

-- an entry with its reason moved
abbrev pub entry_moved : (ClauseRef → Option ClauseRef) → TrailEntry → TrailEntry
entry_moved to e = record e { reason = reason_moved to e.reason }

-- the clauses with these references are gone, and the others have closed up; the trail is as it
-- was, each reason at its new reference
abbrev pub deleted : List ClauseRef → WatchState → WatchState
deleted refs s =
    let kept = without refs s.clauses in
    record s {
      clauses = placed_anew 0 kept;
      trail = map (entry_moved (moved_to 0 kept)) s.trail;
    }

-- no entry has the clause as its reason
abbrev pub IsNoReason : List TrailEntry → ClauseRef → Type 0
IsNoReason entries c = All (λ e. e.reason ≢ Some c) entries

-- the clause has a new reference, and there its literals and its id
pub record HasMoved (refs : List ClauseRef) (old new : List Attached) (c : ClauseRef) : Type 0 where
  pub to : ClauseRef
  pub moved : moved_to 0 (without refs old) c ≡ Some to
  pub attached : is_attached new to ≡ true
  pub lits : lits_at new to ≡ lits_at old c
  pub id : id_at new to ≡ id_at old c

-- the clause was there before, with the same literals and id, and none of these
pub record HasStayed (refs : List ClauseRef) (old new : List Attached) (d : ClauseRef) : Type 0
  where
    pub from : ClauseRef
    pub attached : is_attached old from ≡ true
    pub out : is_in refs from ≡ false
    pub lits : lits_at new d ≡ lits_at old from
    pub id : id_at new d ≡ id_at old from

-- each clause that is left was there before, and none of those with these references
abbrev pub OthersStay : List ClauseRef → List Attached → List Attached → Type 0
OthersStay refs old new = (d : ClauseRef) → is_attached new d ≡ true → HasStayed refs old new d

-- each clause but those with these references has its literals and its id at a new one
abbrev pub OthersMove : List ClauseRef → List Attached → List Attached → Type 0
OthersMove refs old new = (c : ClauseRef) → is_attached old c ≡ true → is_in refs c ≡ false →
    HasMoved refs old new c
