-- A trail by levels: what is false at a level, where clauses are propagated there, why each entry
-- stands, and what follows where a clause is false.
use Rattle.std.specs.Prelude.{◌≡◌, ◌⊎◌, ℕ, suc, ◌<◌, ◌≤◌, nat_le, ℤ, pos, ⊤, Bool, true, false, List, [], ◌∷◌, ◌++◌, filter, map, slice_get, take, Option, None, Some, All, Contains}
use Rattle.sat_clause.specs.declared.literal.Lit.{Lit}
use Rattle.sat_clause.specs.declared.reading.Reading.TheVariants.{Unit}
use Rattle.sat_clause.specs.Literal.{Clause, IsWithin, negation}
use Rattle.sat_clause.specs.Live.{Live, clause_at}
use Rattle.sat_clause.specs.Rup.{Reads, reading_of}
use Rattle.sat_clause.specs.Settled.{IsQuiet}
use Rattle.sat_clause.specs.Trail.{IsOnce, IsOpen, falses}

-- a literal that is true, the level at which it became true, and the id of the clause that made it
-- true; a decision has none
pub record Assigned : Type 0 where
  pub lit : Lit
  pub level : ℕ
  pub reason : Option ℕ

-- the literals of the entries, of which the newest stands first
abbrev pub lits_of : List Assigned → List Lit
lits_of trail = map (λ e. e.lit) trail

-- the literals that the entries make false
abbrev pub made_false : List Assigned → List Lit
made_false trail = falses (lits_of trail)

-- the entries of level at most j
abbrev pub up_to : ℕ → List Assigned → List Assigned
up_to j trail = filter (λ e. nat_le e.level j) trail

-- where these literals are false, no clause is false and none makes a literal true
abbrev pub ArePropagated : Live → List Lit → Type 0
ArePropagated clauses set = (id : ℕ) (c : Clause) → clause_at clauses id ≡ Some c →
    IsQuiet (reading_of set c)

-- the clauses are propagated where only the entries of level at most j are read
abbrev pub IsPropagatedAt : Live → List Assigned → ℕ → Type 0
IsPropagatedAt clauses trail j = ArePropagated clauses (made_false (up_to j trail))

-- the clauses are propagated at each level below this one
abbrev pub IsPropagatedBelow : Live → List Assigned → ℕ → Type 0
IsPropagatedBelow clauses trail level = (j : ℕ) → j < level → IsPropagatedAt clauses trail j

-- why an entry stands: it was decided, or it is the one literal that its reason leaves open where
-- the older ones are true
abbrev pub HasCause : Live → (older : List Assigned) → Lit → Option ℕ → Type 0
HasCause clauses older l None = ⊤
HasCause clauses older l (Some id) = Reads (made_false older) (clause_at clauses id) (Unit l)

-- each entry has its cause in the older ones
abbrev pub AreCaused : Live → List Assigned → Type 0
AreCaused clauses [] = ⊤
AreCaused clauses (e ∷ older) = HasCause clauses older e.lit e.reason × AreCaused clauses older

-- a decision begins a level
abbrev pub after_entry : Option ℕ → ℕ → ℕ
after_entry None level = suc level
after_entry (Some id) level = level

-- the level behind the newest entry: how many decisions there are
abbrev pub level_of : List Assigned → ℕ
level_of [] = 0
level_of (e ∷ older) = after_entry e.reason (level_of older)

-- each entry is of the level that the decisions up to it make
abbrev pub AreLevels : List Assigned → Type 0
AreLevels [] = ⊤
AreLevels (e ∷ older) = (e.level ≡ level_of (e ∷ older)) × AreLevels older

-- what holds of a trail between two steps of a search: its entries are of the variables 1 to n,
-- each of another one, by levels and each with its cause, and the clauses are propagated below the
-- current level
pub record IsPropagatedTrail (clauses : Live) (vars : ℕ) (trail : List Assigned) : Type 0 where
  pub once : IsOnce (lits_of trail)
  pub within : All (λ e. IsWithin vars e.lit) trail
  pub caused : AreCaused clauses trail
  pub levels : AreLevels trail
  pub propagated : IsPropagatedBelow clauses trail (level_of trail)

-- the literal is false, and became so at this level
abbrev pub IsFalseFrom : List Assigned → ℕ → Lit → Type 0
IsFalseFrom trail j l =
    (e : Assigned) × Contains trail e × (negation e.lit ≡ l) × (e.level ≡ j)

-- a false clause of which the first literal became false at the current level and the others at
-- levels from 1 to `back`, one of them at `back`; without others `back` is 0
pub record IsAsserting
    (trail : List Assigned) (level back : ℕ) (first : Lit) (clause : Clause) : Type 0 where
  pub has : Contains clause first
  pub last : IsFalseFrom trail level first
  pub below : back < level
  pub lower : All (λ l.
      (l ≡ first) ⊎ ((j : ℕ) × (1 ≤ j) × (j ≤ back) × IsFalseFrom trail j l)) clause
  pub highest : 1 ≤ back → (l : Lit) × Contains clause l × IsFalseFrom trail back l

-- a marked entry; marks and entries stand in one order
abbrev pub IsMarked : List Assigned → List Bool → Assigned → Type 0
IsMarked trail marks e =
    (k : ℕ) × (slice_get trail k ≡ Some e) × (slice_get marks k ≡ Some true)

-- the literal stands in the clause, or a marked entry makes it false
abbrev pub IsAccounted : Clause → List Assigned → List Bool → Lit → Type 0
IsAccounted clause trail marks l =
    Contains clause l ⊎ ((e : Assigned) × IsMarked trail marks e × (negation e.lit ≡ l))

-- the entry has a reason, of which each other literal is accounted for by older entries
abbrev pub HasAccounts : Live → Clause → Assigned → (older : List Assigned) → List Bool → Type 0
HasAccounts clauses clause e older marks =
    (id : ℕ) × (c : Clause) × (e.reason ≡ Some id) × (clause_at clauses id ≡ Some c)
    × All (λ l. (l ≡ e.lit) ⊎ IsAccounted clause older marks l) c

-- each marked entry does
abbrev pub AreAccounted : Live → Clause → List Assigned → List Bool → Type 0
AreAccounted clauses clause [] marks = ⊤
AreAccounted clauses clause (e ∷ older) [] = ⊤
AreAccounted clauses clause (e ∷ older) (false ∷ marks) = AreAccounted clauses clause older marks
AreAccounted clauses clause (e ∷ older) (true ∷ marks) =
    HasAccounts clauses clause e older marks × AreAccounted clauses clause older marks

-- the id of a reason that is marked
abbrev pub marked_reason : Bool → Option ℕ → List ℤ
marked_reason true (Some id) = pos id ∷ []
marked_reason true None = []
marked_reason false reason = []

-- the ids of the reasons of the marked entries, the oldest first
abbrev pub marked_ids : List Assigned → List Bool → List ℤ
marked_ids [] marks = []
marked_ids (e ∷ older) [] = []
marked_ids (e ∷ older) (mark ∷ marks) = marked_ids older marks ++ marked_reason mark e.reason

-- a clause that comes of a false one and of the reasons of the marked entries: each other literal
-- of these is accounted for, and no marked entry is of a variable of the clause
pub record IsDerived
    (clauses : Live) (trail : List Assigned) (conflict clause : Clause) (marks : List Bool)
    : Type 0 where
  pub ends : All (IsAccounted clause trail marks) conflict
  pub accounted : AreAccounted clauses clause trail marks
  pub apart : (e : Assigned) → IsMarked trail marks e → IsOpen clause e.lit

-- the reason of a marked one of these entries has the literal
abbrev pub StandsInReason : Live → List Assigned → List Bool → Lit → Type 0
StandsInReason clauses newer marks l =
    (e : Assigned) × (id : ℕ) × (c : Clause) × IsMarked newer marks e × (e.reason ≡ Some id)
    × (clause_at clauses id ≡ Some c) × Contains c l

-- the negation of each marked entry stands in the false clause, or in the reason of a newer marked
-- entry
abbrev pub AreNeeded : Live → Clause → List Assigned → List Bool → Type 0
AreNeeded clauses conflict trail marks = (k : ℕ) (e : Assigned) → slice_get trail k ≡ Some e →
    slice_get marks k ≡ Some true →
    Contains conflict (negation e.lit)
    ⊎ StandsInReason clauses (take k trail) (take k marks) (negation e.lit)
