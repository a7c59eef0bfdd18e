-- The chains of clauses: each clause of two or more literals stands in those of its first two.
use Rattle.std.specs.Prelude.{◌≡◌, ◌≢◌, ℕ, zero, suc, ◌+◌, ◌*◌, ◌<◌, ◌≤◌, ◌==◌, pos, Bool, true, false, if◌then◌else◌, ⊤, List, [], ◌∷◌, ◌++◌, length, slice_set, slice_index_or, Option, None, Some}
use Rattle.std.specs.Ordering.{int_eq}
use Rattle.sat_clause.specs.declared.limits.TheConstants.{VARIABLE_LIMIT}
use Rattle.sat_clause.specs.declared.literal.Lit.{Lit}
use Rattle.sat_clause.specs.Learned.{IsSimple}
use Rattle.sat_clause.specs.Literal.{Clause, IsWithin, is_among}
use Rattle.sat_arena.specs.declared.clause_ref.ClauseRef.{ClauseRef}
use Rattle.sat_arena.specs.Store.{ArePlaced, IsLinkTo, ref, size_all, Stored, changed, is_held, stored_at, with_link, with_swap}
use Rattle.sat_watch.specs.declared.place.Place.{Place}
use Rattle.sat_watch.specs.TrailStore.{place_of}

-- where a chain goes on from each clause in it
abbrev pub Next : Type 0
Next = ClauseRef → Option (Option ClauseRef)

-- the chain leads from here over these clauses to there
abbrev pub IsPath : Next → Option ClauseRef → List ClauseRef → Option ClauseRef → Type 0
IsPath next from [] to = from ≡ to
IsPath next from (c ∷ cs) to =
    (from ≡ Some c) × ((after : Option ClauseRef) × (next c ≡ Some after) × IsPath next after cs to)

-- the clause is among these
abbrev pub is_in : List ClauseRef → ClauseRef → Bool
is_in [] c = false
is_in (d ∷ ds) c = if d.word == c.word then true else is_in ds c

-- no clause comes twice
abbrev pub AreOnce : List ClauseRef → Type 0
AreOnce [] = ⊤
AreOnce (c ∷ cs) = (is_in cs c ≡ false) × AreOnce cs

-- the last of these, or else that
abbrev pub last_or : Option ClauseRef → List ClauseRef → Option ClauseRef
last_or d [] = d
last_or d (c ∷ cs) = last_or (Some c) cs

-- a chain with a place in it: it leads over the kept clauses, the last of which is `before`, to
-- `at` and on over the rest to its end; and each clause that is in it is one of these, once
pub record IsCursor
    (next : Next) (head : Option ClauseRef) (kept rest : List ClauseRef)
    (before at : Option ClauseRef)
    : Type 0 where
  pub front : IsPath next head kept at
  pub back : IsPath next at rest None
  pub last : last_or None kept ≡ before
  pub once : AreOnce (kept ++ rest)
  pub whole : (c : ClauseRef) (after : Option ClauseRef) → next c ≡ Some after →
      is_in (kept ++ rest) c ≡ true

-- from this head a chain leads over all clauses that are in it
pub record HasChain (next : Next) (head : Option ClauseRef) : Type 0 where
  pub refs : List ClauseRef
  pub is : IsCursor next head [] refs None head

-- a place in a chain
pub record HasCursor (next : Next) (head before at : Option ClauseRef) : Type 0 where
  pub kept : List ClauseRef
  pub rest : List ClauseRef
  pub is : IsCursor next head kept rest before at

-- the literal at position 0 or 1 of a clause of two or more
abbrev pub watch_of : Clause → ℕ → Option Lit
watch_of [] which = None
watch_of (a ∷ []) which = None
watch_of (a ∷ b ∷ ls) zero = Some a
watch_of (a ∷ b ∷ ls) (suc which) = Some b

-- where the chain of a literal goes on from a clause with these literals and links
abbrev pub next_by : Clause → Lit → (link0 link1 : Option ClauseRef) → Option (Option ClauseRef)
next_by [] l link0 link1 = None
next_by (a ∷ []) l link0 link1 = None
next_by (a ∷ b ∷ ls) l link0 link1 =
    if int_eq a.code l.code then Some link0 else if int_eq b.code l.code then Some link1 else None

abbrev pub next_in : Stored → Lit → Option (Option ClauseRef)
next_in k l = next_by k.lits l k.link0 k.link1

-- where the chain of a literal goes on
abbrev pub next_on : List Stored → Lit → Next
next_on ks l c = next_in (stored_at ks c) l

-- the first clause of a literal's chain
abbrev pub head_in : (vars : ℕ) → List (Option ClauseRef) → Lit → Option ClauseRef
head_in vars heads l = slice_index_or heads (place_of vars l) None

-- the clauses with their links, how many more words there is room for, and each chain's first
-- clause
pub record ChainsState : Type 0 where
  pub vars : ℕ
  pub clauses : List Stored
  pub spare : ℕ
  pub heads : List (Option ClauseRef)

-- the first clause of a literal's chain in this state
abbrev pub head_of : ChainsState → Lit → Option ClauseRef
head_of state l = head_in state.vars state.heads l

-- no clause is marked
abbrev pub AreUnmarked : List Stored → Type 0
AreUnmarked [] = ⊤
AreUnmarked (k ∷ ks) = (k.mark ≡ false) × AreUnmarked ks

-- the chains of all literals are whole, and no clause is marked
pub record IsChained (vars : ℕ) (clauses : List Stored) (heads : List (Option ClauseRef)) : Type 0
  where
    pub few : vars ≤ VARIABLE_LIMIT
    pub many : length heads ≡ vars * 2 + 1
    pub placed : ArePlaced 0 clauses
    pub unmarked : AreUnmarked clauses
    pub simple : (c : ClauseRef) → is_held clauses c ≡ true →
        IsSimple vars (stored_at clauses c).lits
    pub chains : (l : Lit) → IsWithin vars l → HasChain (next_on clauses l) (head_in vars heads l)

-- they are whole in this state
abbrev pub AreChained : ChainsState → Type 0
AreChained state = IsChained state.vars state.clauses state.heads

-- what links to the clause behind `before` is set to lead on to the one after it
abbrev pub unlinked : Option Place → Option ClauseRef → List Stored → List Stored
unlinked None after clauses = clauses
unlinked (Some p) after clauses = changed (with_link p.which after) p.clause clauses

abbrev pub unlinked_heads : (vars : ℕ) → Lit → Option Place → Option ClauseRef →
    List (Option ClauseRef) → List (Option ClauseRef)
unlinked_heads vars f None after heads = slice_set heads (place_of vars f) after
unlinked_heads vars f (Some p) after heads = heads

-- the clause of a place
abbrev pub clause_of : Option Place → Option ClauseRef
clause_of None = None
clause_of (Some p) = Some p.clause

-- a clause with its watch moved to the literal at another position, in front of that literal's
-- chain
abbrev pub with_watch : (which k : ℕ) → Option ClauseRef → Stored → Stored
with_watch which k head stored = with_link which head (with_swap which k stored)

-- the literal of a clause at a position
abbrev pub lit_at : Clause → ℕ → Lit
lit_at lits k = slice_index_or lits k (record { code = pos 0 })

-- the literals of the clause that is held there
abbrev pub literals : List Stored → ClauseRef → Clause
literals clauses c = (stored_at clauses c).lits

-- its literal at a position
abbrev pub lit_in : List Stored → ClauseRef → ℕ → Lit
lit_in clauses c k = lit_at (literals clauses c) k

-- the first clause in the chain of a clause's literal at a position
abbrev pub head_at : (vars : ℕ) → List Stored → List (Option ClauseRef) → ClauseRef → ℕ →
    Option ClauseRef
head_at vars clauses heads c k = head_in vars heads (lit_in clauses c k)

-- the clause itself is put first there
abbrev pub with_head : (vars : ℕ) → List Stored → List (Option ClauseRef) → ClauseRef → ℕ →
    List (Option ClauseRef)
with_head vars clauses heads c k = slice_set heads (place_of vars (lit_in clauses c k)) (Some c)

-- the table has a chain of that literal, and its first clause is held
pub record HasHead
    (vars : ℕ) (clauses : List Stored) (heads : List (Option ClauseRef)) (c : ClauseRef) (k : ℕ)
    : Type 0 where
  pub within : IsWithin vars (lit_in clauses c k)
  pub held : IsLinkTo clauses (head_at vars clauses heads c k)

-- a clause with the literal at position i first, and then the one at position j second
abbrev pub with_order : (i j : ℕ) → Stored → Stored
with_order i j stored = with_swap 1 j (with_swap 0 i stored)

-- the place is of a held clause whose literal there is this one
pub record IsPlaceOf (clauses : List Stored) (f : Lit) (p : Place) : Type 0 where
  pub held : is_held clauses p.clause ≡ true
  pub which : p.which < 2
  pub watch : watch_of (stored_at clauses p.clause).lits p.which ≡ Some f

-- there is no place, or it is one of the literal's
abbrev pub MayBePlaceOf : List Stored → Lit → Option Place → Type 0
MayBePlaceOf clauses f None = ⊤
MayBePlaceOf clauses f (Some p) = IsPlaceOf clauses f p

-- the clause's watch is moved, the clause before it is linked to the one after it, and no other
-- changes
pub record IsRewatched
    (old new : List Stored) (before : Option Place) (at : Place) (k : ℕ)
    (after head : Option ClauseRef)
    : Type 0 where
  pub moved : stored_at new at.clause ≡ with_watch at.which k head (stored_at old at.clause)
  pub relinked : (p : Place) → before ≡ Some p →
      stored_at new p.clause ≡ with_link p.which after (stored_at old p.clause)
  pub others : (d : ClauseRef) → d ≢ at.clause → clause_of before ≢ Some d →
      stored_at new d ≡ stored_at old d
  pub held : (d : ClauseRef) → is_held new d ≡ is_held old d
  pub ids : (d : ClauseRef) → (stored_at new d).id ≡ (stored_at old d).id
  pub count : length new ≡ length old

-- the clause is in the chain
abbrev pub GoesOn : Option (Option ClauseRef) → Type 0
GoesOn None = ⊥
GoesOn (Some after) = ⊤

-- how many of the clauses pass the test
abbrev pub counted : (Stored → Bool) → List Stored → ℕ
counted p [] = 0
counted p (k ∷ ks) = if p k then suc (counted p ks) else counted p ks

-- how many of the clauses hold the literal
abbrev pub holders : Lit → List Stored → ℕ
holders l ks = counted (λ k. is_among k.lits l) ks

-- the literal is one of the first two of two or more
abbrev pub is_watched : Clause → Lit → Bool
is_watched [] l = false
is_watched (a ∷ []) l = false
is_watched (a ∷ b ∷ ls) l = if int_eq a.code l.code then true else int_eq b.code l.code

-- how many of the clauses watch the literal
abbrev pub watchers : Lit → List Stored → ℕ
watchers l ks = counted (λ k. is_watched k.lits l) ks

-- the clause stands behind the others, and was none of them
pub record IsLast (ks all : List Stored) (k : Stored) (c : ClauseRef) : Type 0 where
  pub is : all ≡ ks ++ k ∷ []
  pub place : k.place ≡ c
  pub fresh : is_held ks c ≡ false

-- a clause with these literals, in this order, and this id was put behind the others
pub record IsAdded (old new : ChainsState) (order : Clause) (id : ℕ) (c : ClauseRef) : Type 0 where
  pub clause : Stored
  pub last : IsLast old.clauses new.clauses clause c
  pub place : c ≡ ref (size_all old.clauses)
  pub lits : clause.lits ≡ order
  pub is_id : clause.id ≡ id
  pub vars : new.vars ≡ old.vars
