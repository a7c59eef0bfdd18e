-- What contracts see of watches: the clauses with their ids, the trail, what is queued and what is
-- pending.
use Rattle.std.specs.Prelude.{◌≡◌, ◌≢◌, ℕ, suc, ◌+◌, ◌-◌, ◌<◌, ◌≤◌, ◌==◌, nat_lt, Bool, true, false, if◌then◌else◌, ⊤, ◌⊎◌, List, [], ◌∷◌, ◌++◌, length, map, drop, take, Option, None, Some, is_some, All, IsPermutation, Contains, max, unwrap_or}
use Rattle.sat_clause.specs.declared.literal.Lit.{Lit}
use Rattle.sat_clause.specs.Literal.{Clause, is_among, negation}
use Rattle.sat_clause.specs.Rup.{reading_of}
use Rattle.sat_arena.specs.declared.clause_ref.ClauseRef.{ClauseRef}
use Rattle.sat_arena.specs.Store.{Stored}
use Rattle.sat_watch.specs.declared.entry.TrailEntry.{TrailEntry}
use Rattle.sat_watch.specs.Levels.{IsWatchStore, pending_without, upto}
use Rattle.sat_clause.specs.Settled.{IsQuiet}
use Rattle.sat_watch.specs.Chains.{ChainsState, is_watched}
use Rattle.sat_watch.specs.Trail.{TrailState, falses}
use Rattle.sat_watch.specs.Watched.{AreWhole, HasCounted, IsReason, is_false, true_at}

-- a clause with its reference, its id and its literals
pub record Attached : Type 0 where
  pub place : ClauseRef
  pub id : ℕ
  pub lits : Clause

abbrev pub attached : Stored → Attached
attached k = record { place = k.place; id = k.id; lits = k.lits }

-- the variables, the clauses in the order of their references, the trail, the newest entry first,
-- how many of its newest entries are queued, the current level, and the clause that is pending
pub record WatchState : Type 0 where
  pub vars : ℕ
  pub clauses : List Attached
  pub trail : List TrailEntry
  pub queued : ℕ
  pub level : ℕ
  pub pending : Option ClauseRef

-- one of the clauses has this reference
abbrev pub is_attached : List Attached → ClauseRef → Bool
is_attached [] c = false
is_attached (k ∷ ks) c = if k.place.word == c.word then true else is_attached ks c

-- the literals and the id of the clause with this reference
abbrev pub lits_at : List Attached → ClauseRef → Clause
lits_at [] c = []
lits_at (k ∷ ks) c = if k.place.word == c.word then k.lits else lits_at ks c

abbrev pub id_at : List Attached → ClauseRef → ℕ
id_at [] c = 0
id_at (k ∷ ks) c = if k.place.word == c.word then k.id else id_at ks c

-- the reference of the first of the clauses
abbrev pub first_attached : List Attached → Option ClauseRef
first_attached [] = None
first_attached (k ∷ ks) = Some k.place

-- the clauses that stand behind the one with this reference
abbrev pub attached_behind : List Attached → ClauseRef → List Attached
attached_behind [] c = []
attached_behind (k ∷ ks) c = if k.place.word == c.word then ks else attached_behind ks c

-- the first clause stands at this word, and each next one behind the literals of the one before and
-- six words
abbrev pub AreInPlace : ℕ → List Attached → Type 0
AreInPlace at [] = ⊤
AreInPlace at (k ∷ ks) = (k.place.word ≡ at) × AreInPlace (at + (length k.lits + 6)) ks

-- at level j no clause is false, and none has one open literal and all others false
abbrev pub IsPropagatedAt : WatchState → ℕ → Type 0
IsPropagatedAt s j = (c : ClauseRef) → is_attached s.clauses c ≡ true →
    IsQuiet (reading_of (falses (upto j s.trail)) (lits_at s.clauses c))

-- each level below the current one is propagated, and the current one where nothing is queued or
-- pending
pub record IsPropagatedState (s : WatchState) : Type 0 where
  pub below : (j : ℕ) → j < s.level → IsPropagatedAt s j
  pub here : s.queued ≡ 0 → s.pending ≡ None → IsPropagatedAt s s.level

-- a level begins with this literal
abbrev pub assumed : Lit → WatchState → WatchState
assumed l s = record s {
  trail = record { lit = l; level = suc s.level; reason = None } ∷ s.trail;
  queued = 1;
  level = suc s.level;
}

-- the clause makes this literal true at the current level
abbrev pub implied : Lit → ClauseRef → WatchState → WatchState
implied l r s = record s {
  trail = record { lit = l; level = s.level; reason = Some r } ∷ s.trail;
  queued = suc s.queued;
  pending = pending_without r s.pending;
}

-- the levels above this one are dropped, with what is queued and pending
abbrev pub gone_back : ℕ → WatchState → WatchState
gone_back j s =
    if nat_lt j s.level then record s {
      trail = upto j s.trail;
      queued = 0;
      level = j;
      pending = None;
    } else s

-- how many of the clauses pass the test
abbrev pub count_of : (Clause → Bool) → List Attached → ℕ
count_of p [] = 0
count_of p (k ∷ ks) = if p k.lits then suc (count_of p ks) else count_of p ks

-- how many of the clauses hold the literal
abbrev pub holder_count : Lit → List Attached → ℕ
holder_count l ks = count_of (λ lits. is_among lits l) ks

-- how many of the clauses watch the literal
abbrev pub watcher_count : Lit → List Attached → ℕ
watcher_count l ks = count_of (λ lits. is_watched lits l) ks

-- the clauses keep their references and ids, and as sets their literals; and where they stood one
-- behind another, they still do
pub record SameClauses (old new : List Attached) : Type 0 where
  pub count : length new ≡ length old
  pub places : AreInPlace 0 old → AreInPlace 0 new
  pub attached : (c : ClauseRef) → is_attached new c ≡ is_attached old c
  pub ids : (c : ClauseRef) → id_at new c ≡ id_at old c
  pub lits : (c : ClauseRef) → IsPermutation (lits_at old c) (lits_at new c)
  pub holders : (l : Lit) → holder_count l new ≡ holder_count l old

-- the trail was extended by implied entries of the current level, and the clauses stay as sets
pub record Propagates (old new : WatchState) : Type 0 where
  pub vars : new.vars ≡ old.vars
  pub level : new.level ≡ old.level
  pub pending : new.pending ≡ None
  pub clauses : SameClauses old.clauses new.clauses
  pub added : List TrailEntry
  pub trail : new.trail ≡ added ++ old.trail
  pub added_level : All (λ e. (e.level ≡ old.level) × (is_some e.reason ≡ true)) added

-- how many entries stay queued, but for the one whose negation was walked last where a clause is
-- false
abbrev pub left_queued : WatchState → Option ClauseRef → ℕ
left_queued new None = new.queued
left_queued new (Some c) = new.queued - 1

-- the entries that were taken from the queue, the newest first
abbrev pub taken_between : WatchState → WatchState → Option ClauseRef → List TrailEntry
taken_between old new result =
    take ((length new.trail - left_queued new result) - (length old.trail - old.queued))
    (drop (left_queued new result) new.trail)

-- how many clauses hold the negations of the entries, in all
abbrev pub holder_sum : List Attached → List TrailEntry → ℕ
holder_sum ks [] = 0
holder_sum ks (e ∷ es) = holder_count (negation e.lit) ks + holder_sum ks es

-- how many clauses watch the negations of the entries, in all
abbrev pub watcher_sum : List Attached → List TrailEntry → ℕ
watcher_sum ks [] = 0
watcher_sum ks (e ∷ es) = watcher_count (negation e.lit) ks + watcher_sum ks es

-- the visits in a call that finds no false clause are at least the clauses that still watch the
-- negations of the literals taken, as far as the counter goes
abbrev pub HasVisited : WatchState → WatchState → ℕ → ℕ → Type 0
HasVisited old new before after =
    HasCounted before (watcher_sum new.clauses (taken_between old new None)) after

-- the visits in one call are at most the clauses that hold the negations of the literals taken
abbrev pub IsWithinVisits : WatchState → WatchState → Option ClauseRef → ℕ → ℕ → Type 0
IsWithinVisits old new result before after =
    after ≤ before + holder_sum old.clauses (taken_between old new result)

-- an entry without a reason begins its level; one with a reason is in it, and its others are false
abbrev pub HasCause : List Attached → ℕ → Lit → List TrailEntry → Option ClauseRef → (ℕ → Type 0) →
    Type 0
HasCause clauses level l older None below = (n : ℕ) × (level ≡ suc n) × below n
HasCause clauses level l older (Some r) below =
    (is_attached clauses r ≡ true) × IsReason older (lits_at clauses r) l × below level

-- the levels do not fall along the trail and end at this one; each from 1 on begins with its one
-- entry without a reason, and each other entry is made true by its reason
abbrev pub HasLevels : List Attached → ℕ → List TrailEntry → Type 0
HasLevels clauses level [] = level ≡ 0
HasLevels clauses level (e ∷ older) =
    (e.level ≡ level) × HasCause clauses level e.lit older e.reason (λ n. HasLevels clauses n older)

-- the highest level of the clause's false literals, and 0 where there are none
abbrev pub highest : List TrailEntry → Clause → ℕ
highest entries [] = 0
highest entries (l ∷ ls) = max (unwrap_or (true_at entries (negation l)) 0) (highest entries ls)

-- this is the one literal of the clause that is not false
abbrev pub IsOnlyOne : List TrailEntry → Clause → Lit → Type 0
IsOnlyOne entries lits l =
    Contains lits l × (is_false entries l ≡ false)
    × ((m : Lit) → Contains lits m → m ≢ l → is_false entries m ≡ true)

-- at least two literals of the clause are not false
abbrev pub HasTwoFree : List TrailEntry → Clause → Type 0
HasTwoFree entries lits = (a b : Lit) × Contains lits a × Contains lits b × (a ≢ b)
    × (is_false entries a ≡ false) × (is_false entries b ≡ false)

-- one literal is not false: it is true at a level not above the highest of the others
abbrev pub HasOneTrue : List TrailEntry → Clause → Type 0
HasOneTrue entries lits = (l : Lit) × (n : ℕ) × IsOnlyOne entries lits l
    × (true_at entries l ≡ Some n) × (n ≤ highest entries lits)

-- one literal is not false: it is open, and the current level is the highest of the others
abbrev pub HasOneOpen : List TrailEntry → ℕ → Clause → Type 0
HasOneOpen entries level lits = (l : Lit) × IsOnlyOne entries lits l
    × (true_at entries l ≡ None) × (level ≡ highest entries lits)

-- a clause may be attached in three cases
abbrev pub MayAttach : WatchState → Clause → Type 0
MayAttach s lits =
    HasTwoFree s.trail lits ⊎ (HasOneTrue s.trail lits ⊎ HasOneOpen s.trail s.level lits)

-- how many words the clauses take
abbrev pub words_in : List Attached → ℕ
words_in [] = 0
words_in (k ∷ ks) = length k.lits + 6 + words_in ks

-- the clause is attached behind the others, in some order of its literals, and is pending in the
-- third case
pub record Attaches (old new : WatchState) (lits : Clause) (id : ℕ) (c : ClauseRef) : Type 0 where
  pub place : c.word ≡ words_in old.clauses
  pub order : Clause
  pub same : IsPermutation lits order
  pub is : new ≡ record old {
    clauses = old.clauses ++ record { place = c; id = id; lits = order } ∷ [];
    pending = new.pending;
  }
  pub pending : HasOneOpen old.trail old.level lits → new.pending ≡ Some c
  pub not_pending : HasTwoFree old.trail lits ⊎ HasOneTrue old.trail lits → new.pending ≡ None

-- the view
abbrev pub watch_state : ChainsState → TrailState → ℕ → ℕ → Option ClauseRef → WatchState
watch_state c t queued level pending = record {
  vars = c.vars;
  clauses = map attached c.clauses;
  trail = t.entries;
  queued = queued;
  level = level;
  pending = pending;
}

-- what the watches know of their chains and their trail
pub record IsWatches (c : ChainsState) (t : TrailState) (queued level : ℕ)
    (pending : Option ClauseRef) : Type 0 where
  pub whole : AreWhole c t
  pub store : IsWatchStore c.clauses t.entries queued level pending
