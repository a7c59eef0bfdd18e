-- The literals that a search has made true, the newest first, each with its level and its reason.
use Rattle.std.specs.Prelude.{ℕ, ◌≤◌, Bool, true, false, if◌then◌else◌, nat_le, ◌==◌, List, [], ◌∷◌, length, Option, None, Some, map, All}
use Rattle.sat_clause.specs.declared.limits.TheConstants.{VARIABLE_LIMIT}
use Rattle.sat_clause.specs.declared.literal.Lit.{Lit}
use Rattle.sat_clause.specs.Literal.{IsWithin, is_among, negation, variable}
use Rattle.sat_clause.specs.Trail.{falses as falses_of, IsOpen as IsOpenOn, IsOnce as IsOnceOn}
use Rattle.sat_watch.specs.declared.entry.TrailEntry.{TrailEntry}

-- the number of variables, and the entries, the newest first
pub record TrailState : Type 0 where
  pub vars : ℕ
  pub entries : List TrailEntry

-- the literals of the entries
abbrev pub lits_of : List TrailEntry → List Lit
lits_of entries = map (λ e. e.lit) entries

-- the literals that the entries make false
abbrev pub falses : List TrailEntry → List Lit
falses entries = falses_of (lits_of entries)

-- no entry is of the literal's variable
abbrev pub IsOpen : List TrailEntry → Lit → Type 0
IsOpen entries l = IsOpenOn (lits_of entries) l

-- each entry is of a variable that was open before it
abbrev pub IsOnce : List TrailEntry → Type 0
IsOnce entries = IsOnceOn (lits_of entries)

-- the entries are of the variables 1 to n
abbrev pub AreWithin : ℕ → List TrailEntry → Type 0
AreWithin n entries = All (λ e. IsWithin n e.lit) entries

-- the entries are of the trail's variables, no two of one, and so there are no more than variables
pub record IsTrail (trail : TrailState) : Type 0 where
  pub few_vars : trail.vars ≤ VARIABLE_LIMIT
  pub within : AreWithin trail.vars trail.entries
  pub once : IsOnce trail.entries
  pub few : length trail.entries ≤ trail.vars

-- the literal's truth, and none where it is open
abbrev pub value_in : List TrailEntry → Lit → Option Bool
value_in entries l =
    if is_among (falses entries) l then Some false
    else if is_among (falses entries) (negation l) then Some true else None

-- how many entries are older than the one of the literal's variable; none where it is open
abbrev pub place_in : List TrailEntry → Lit → Option ℕ
place_in [] l = None
place_in (e ∷ older) l =
    if variable e.lit == variable l then Some (length older) else place_in older l

-- what is left once the newest entries of a level above j are dropped
abbrev pub fallen : ℕ → List TrailEntry → List TrailEntry
fallen j [] = []
fallen j (e ∷ older) = if nat_le e.level j then e ∷ older else fallen j older
