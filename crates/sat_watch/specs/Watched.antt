-- Which literals are true at which level, why, and when a clause can be left alone.
use Rattle.std.specs.Prelude.{◌≡◌, ◌≢◌, ℕ, zero, suc, ◌+◌, ◌-◌, ◌^◌, ◌<◌, ◌≤◌, min, Bool, true, false, if◌then◌else◌, ⊤, ◌⊎◌, List, [], ◌∷◌, ◌++◌, length, Option, None, Some, All, Contains, IsPermutation}
use Rattle.std.specs.Ordering.{int_eq}
use Rattle.sat_clause.specs.declared.literal.Lit.{Lit}
use Rattle.sat_clause.specs.Literal.{Clause, is_among, negation}
use Rattle.sat_arena.specs.declared.clause_ref.ClauseRef.{ClauseRef}
use Rattle.sat_arena.specs.Store.{Stored, is_held, stored_at}
use Rattle.sat_watch.specs.declared.entry.TrailEntry.{TrailEntry}
use Rattle.sat_watch.specs.declared.sight.Sight.{Sight}
use Rattle.sat_watch.specs.declared.sight.Sight.TheVariants.{IsTrueAlready, Open, Unit, IsFalseNow}
use Rattle.sat_watch.specs.Trail.{IsOpen, IsTrail, TrailState, falses}
use Rattle.sat_watch.specs.declared.place.Place.{Place}
use Rattle.sat_watch.specs.Chains.{holders, AreChained, ChainsState, IsCursor, head_of, is_in, lit_at, next_on, watch_of}

-- the chains are whole, and the trail is one of the same variables
pub record AreWhole (c : ChainsState) (t : TrailState) : Type 0 where
  pub vars : t.vars ≡ c.vars
  pub chained : AreChained c
  pub trail : IsTrail t

-- the entries make the literal false
abbrev pub is_false : List TrailEntry → Lit → Bool
is_false entries l = is_among (falses entries) l

-- the entries make each of the literals false
abbrev pub AreFalse : List TrailEntry → Clause → Type 0
AreFalse entries lits = All (λ m. is_false entries m ≡ true) lits

-- the level at which the entries make the literal true
abbrev pub true_at : List TrailEntry → Lit → Option ℕ
true_at [] l = None
true_at (e ∷ older) l = if int_eq e.lit.code l.code then Some e.level else true_at older l

-- the clause has the literal, and its others are false
pub record IsReason (older : List TrailEntry) (lits : Clause) (l : Lit) : Type 0 where
  pub has : Contains lits l
  pub others : (m : Lit) → Contains lits m → m ≢ l → is_false older m ≡ true

-- a held clause makes the literal true, at this level
pub record IsImplied (clauses : List Stored) (level : ℕ) (older : List TrailEntry)
    (e : TrailEntry) : Type 0 where
  pub at_level : e.level ≡ level
  pub reason : ClauseRef
  pub is : e.reason ≡ Some reason
  pub held : is_held clauses reason ≡ true
  pub why : IsReason older (stored_at clauses reason).lits e.lit

-- each of these entries is implied, by those behind it and the older ones
abbrev pub AreImplied : List Stored → ℕ → (added older : List TrailEntry) → Type 0
AreImplied clauses level [] older = ⊤
AreImplied clauses level (e ∷ added) older =
    IsImplied clauses level (added ++ older) e × AreImplied clauses level added older

-- the trail grew by entries that are implied at this level
pub record Grows (clauses : List Stored) (level : ℕ) (old new : List TrailEntry) : Type 0 where
  pub added : List TrailEntry
  pub is : new ≡ added ++ old
  pub implied : AreImplied clauses level added old

-- the other one of the first two positions
abbrev pub other_of : ℕ → ℕ
other_of zero = 1
other_of (suc which) = 0

-- the other watched literal, where f is one, is true
abbrev pub OtherIsTrue : List TrailEntry → Clause → Lit → Type 0
OtherIsTrue entries lits f = (which : ℕ) (o : Lit) → which < 2 → watch_of lits which ≡ Some f
    → watch_of lits (other_of which) ≡ Some o → is_false entries (negation o) ≡ true

-- where there is a literal at this position of the first two, it is false
abbrev pub IsFalseWatch : List TrailEntry → Clause → ℕ → Type 0
IsFalseWatch entries lits which =
    (l : Lit) → watch_of lits which ≡ Some l → is_false entries l ≡ true

-- what a clause says whose watched literal at a position is false
abbrev pub SightSays : List TrailEntry → Clause → ℕ → Sight → Type 0
SightSays entries lits which IsTrueAlready =
    (o : Lit) → watch_of lits (other_of which) ≡ Some o → is_false entries (negation o) ≡ true
SightSays entries lits which (Open k) =
    (2 ≤ k) × (k < length lits) × (is_false entries (lit_at lits k) ≡ false)
SightSays entries lits which (Unit l) =
    (watch_of lits (other_of which) ≡ Some l) × IsOpen entries l
    × ((m : Lit) → Contains lits m → m ≢ l → is_false entries m ≡ true)
SightSays entries lits which IsFalseNow = AreFalse entries lits

-- a clause's literals keep: in another order, with the watch f moved to a literal that was not
-- false, or as they are
pub record LitsGo (base : List TrailEntry) (f : Lit) (old new : Clause) : Type 0 where
  pub same : IsPermutation old new
  pub short : length old < 2 → new ≡ old
  pub watch : (which : ℕ) (l : Lit) → which < 2 → watch_of new which ≡ Some l →
      (watch_of old which ≡ Some l) ⊎ ((watch_of old which ≡ Some f) × (is_false base l ≡ false))

-- the clauses keep their references, ids and literals, and the trail grew
pub record Goes (base : List TrailEntry) (level : ℕ) (f : Lit) (old new : List Stored)
    (entries now : List TrailEntry)
    : Type 0 where
  pub count : length new ≡ length old
  pub held : (c : ClauseRef) → is_held new c ≡ is_held old c
  pub ids : (c : ClauseRef) → (stored_at new c).id ≡ (stored_at old c).id
  pub lits : (c : ClauseRef) → LitsGo base f (stored_at old c).lits (stored_at new c).lits
  pub holders_same : (l : Lit) → holders l new ≡ holders l old
  pub grows : Grows new level entries now

-- so do chains and a trail for the literal f, which is false
abbrev pub GoesTo : ℕ → Lit → (c : ChainsState) (t : TrailState) (c' : ChainsState)
    (t' : TrailState) → Type 0
GoesTo level f c t c' t' = Goes t.entries level f c.clauses c'.clauses t.entries t'.entries

-- the position is one from the third on whose literal is not false, or there is none
abbrev pub OpenSays : List TrailEntry → Clause → Option ℕ → Type 0
OpenSays entries lits None =
    (k : ℕ) → 2 ≤ k → k < length lits → is_false entries (lit_at lits k) ≡ true
OpenSays entries lits (Some k) =
    (2 ≤ k) × (k < length lits) × (is_false entries (lit_at lits k) ≡ false)

-- the place in the chain after a visit: what is kept was kept, or its other watched literal is true
pub record NextCursor
    (f : Lit) (new : ChainsState) (now : List TrailEntry) (kept rest : List ClauseRef)
    (before after : Option ClauseRef)
    : Type 0 where
  pub kept_now : List ClauseRef
  pub is : IsCursor (next_on new.clauses f) (head_of new f) kept_now rest before after
  pub were : (d : ClauseRef) → is_in kept_now d ≡ true →
      (is_in kept d ≡ true) ⊎ OtherIsTrue now (stored_at new.clauses d).lits f
  pub more : length kept_now ≤ suc (length kept)

-- what a visit of the clause at a place leaves: the clause behind which the next one stands
pub record IsVisited
    (f : Lit) (before : Option ClauseRef) (at : Place) (after : Option ClauseRef)
    (old new : ChainsState) (now : List TrailEntry)
    (last : Option ClauseRef) : Type 0 where
  pub others : (d : ClauseRef) → d ≢ at.clause →
      (stored_at new.clauses d).lits ≡ (stored_at old.clauses d).lits
  pub cursor : (kept rest : List ClauseRef) →
      IsCursor (next_on old.clauses f) (head_of old f) kept (at.clause ∷ rest) before
      (Some at.clause) →
      NextCursor f new now kept rest last after

-- a walk along the chain of f, which is false: the clauses that are kept have their other watch
-- true
pub record IsWalking
    (base : List TrailEntry) (level : ℕ) (f : Lit) (old : List Stored) (visits_before : ℕ)
    (now : ChainsState) (entries : List TrailEntry) (before next : Option ClauseRef) (visits : ℕ)
    : Type 0 where
  pub kept : List ClauseRef
  pub rest : List ClauseRef
  pub cursor : IsCursor (next_on now.clauses f) (head_of now f) kept rest before next
  pub kept_true : (d : ClauseRef) → is_in kept d ≡ true →
      OtherIsTrue entries (stored_at now.clauses d).lits f
  pub goes : Goes base level f old now.clauses base entries
  pub few : visits + length rest ≤ visits_before + holders f old
  pub each : visits_before + length kept ≤ visits

-- a counter was raised by as many as these at least, as far as it goes
abbrev pub HasCounted : (before many after : ℕ) → Type 0
HasCounted before many after = min (before + many) (2 ^ 64 - 1) ≤ after

-- where a chain goes on
abbrev pub after_of : Option (Option ClauseRef) → Option ClauseRef
after_of None = None
after_of (Some after) = after

-- how many clauses a chain leads over from here, at most so many
abbrev pub chain_length : ℕ → (ClauseRef → Option (Option ClauseRef)) → Option ClauseRef → ℕ
chain_length zero next from = 0
chain_length (suc most) next None = 0
chain_length (suc most) next (Some c) = suc (chain_length most next (after_of (next c)))
