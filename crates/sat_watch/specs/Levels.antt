-- The levels of a trail, why its entries stand, and when the clauses are propagated.
use Rattle.std.specs.Prelude.{◌≡◌, ◌≢◌, ℕ, suc, ◌<◌, ◌≤◌, true, if◌then◌else◌, nat_le, ◌==◌, ⊤, List, [], ◌∷◌, length, drop, slice_index_or, Option, None, Some, All}
use Rattle.sat_clause.specs.declared.literal.Lit.{Lit}
use Rattle.sat_clause.specs.Literal.{Clause, negation}
use Rattle.sat_arena.specs.declared.clause_ref.ClauseRef.{ClauseRef}
use Rattle.sat_arena.specs.Store.{Stored, is_held, stored_at}
use Rattle.sat_watch.specs.declared.entry.TrailEntry.{TrailEntry}
use Rattle.sat_watch.specs.Watched.{IsReason, is_false, other_of, true_at}
use Rattle.sat_watch.specs.Chains.{watch_of}

-- the entries of level at most j: only these are read at level j
abbrev pub upto : ℕ → List TrailEntry → List TrailEntry
upto j [] = []
upto j (e ∷ older) = if nat_le e.level j then e ∷ upto j older else upto j older

-- an entry without a reason begins its level; one with a reason is in it, and its others are false
abbrev pub IsLeveledBy : List Stored → ℕ → Lit → List TrailEntry → Option ClauseRef → (ℕ → Type 0) →
    Type 0
IsLeveledBy clauses level l older None below = (n : ℕ) × (level ≡ suc n) × below n
IsLeveledBy clauses level l older (Some r) below =
    (is_held clauses r ≡ true) × IsReason older (stored_at clauses r).lits l × below level

-- the levels do not fall along the trail and end at this one; each from 1 on begins with its one
-- entry without a reason, and each other entry is made true by its reason
abbrev pub AreLeveled : List Stored → ℕ → List TrailEntry → Type 0
AreLeveled clauses level [] = level ≡ 0
AreLeveled clauses level (e ∷ older) =
    (e.level ≡ level) × IsLeveledBy clauses level e.lit older e.reason
    (λ n. AreLeveled clauses n older)

-- a clause that can be left alone: where a watched literal is false since its negation was taken
-- from the queue, the other one is true at no higher level; a clause of one literal has it true at
-- level 0
pub record IsWatched (taken entries : List TrailEntry) (lits : Clause) : Type 0 where
  pub some : lits ≢ []
  pub alone : (a : Lit) → lits ≡ a ∷ [] → true_at entries a ≡ Some 0
  pub guarded : (which : ℕ) (l o : Lit) (n : ℕ) → which < 2 → watch_of lits which ≡ Some l →
      watch_of lits (other_of which) ≡ Some o → true_at taken (negation l) ≡ Some n →
      (m : ℕ) × (true_at entries o ≡ Some m) × (m ≤ n)

-- a clause that is pending: all literals but the first are false, the second since the current
-- level, and the first is not read below that level; a clause of one literal is pending at level 0
pub record IsPendingAt (entries : List TrailEntry) (level : ℕ) (lits : Clause) : Type 0 where
  pub some : lits ≢ []
  pub alone : (a : Lit) → lits ≡ a ∷ [] → level ≡ 0
  pub others : (a : Lit) (ls : Clause) → lits ≡ a ∷ ls → All (λ m. is_false entries m ≡ true) ls
  pub second : (b : Lit) → watch_of lits 1 ≡ Some b → true_at entries (negation b) ≡ Some level
  pub first : (a : Lit) (n : ℕ) → watch_of lits 0 ≡ Some a → true_at entries a ≡ Some n → n ≡ level
  pub first_false : (a : Lit) (n : ℕ) → watch_of lits 0 ≡ Some a →
      true_at entries (negation a) ≡ Some n → n ≡ level

-- at most one clause is pending
abbrev pub MayBePending : List Stored → List TrailEntry → ℕ → Option ClauseRef → Type 0
MayBePending clauses entries level None = ⊤
MayBePending clauses entries level (Some c) =
    (is_held clauses c ≡ true) × IsPendingAt entries level (stored_at clauses c).lits

-- what the watches know, where so many entries, the newest, are queued: the trail's levels and
-- reasons, that what is queued is of the current level, and that each clause but the pending one
-- can be left alone
pub record IsWatchStore
    (clauses : List Stored) (entries : List TrailEntry) (queued level : ℕ)
    (pending : Option ClauseRef) : Type 0 where
  pub few : queued ≤ length entries
  pub leveled : AreLeveled clauses level entries
  pub current : (k : ℕ) (d : TrailEntry) → k < queued → (slice_index_or entries k d).level ≡ level
  pub watched : (c : ClauseRef) → is_held clauses c ≡ true → pending ≢ Some c →
      IsWatched (drop queued entries) entries (stored_at clauses c).lits
  pub pending_is : MayBePending clauses entries level pending

-- what is pending, once a clause has made a literal true
abbrev pub pending_without : ClauseRef → Option ClauseRef → Option ClauseRef
pending_without r None = None
pending_without r (Some c) = if r.word == c.word then None else Some c
