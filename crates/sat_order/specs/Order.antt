-- The variables with their activities, and which of them are held.
use Rattle.std.specs.Prelude.{◌≡◌, ℕ, ◌-◌, ◌/◌, ◌^◌, ◌≤◌, ◌<◌, Bool, true, false, ◌||◌, List, [], ◌∷◌, length, map, slice_index, slice_index_or, vec_len, Vec}
use Rattle.std.specs.Global.{Global}
use Rattle.sat_clause.specs.declared.limits.TheConstants.{VARIABLE_LIMIT}
use Rattle.sat_order.specs.Heap.{Seats, IsSeated, IsBefore, IsHeap, held_of}

-- the number of variables; variable v has its activity, and whether it is held, at place v - 1
pub record OrderState : Type 0 where
  pub vars : ℕ
  pub activities : List ℕ
  pub held : List Bool

-- each variable has an activity, and is held or not
pub record IsWhole (s : OrderState) : Type 0 where
  pub activities : length s.activities ≡ s.vars
  pub held : length s.held ≡ s.vars

-- v is one of the variables 1 to vars
pub record IsVariable (s : OrderState) (v : ℕ) : Type 0 where
  pub first : 1 ≤ v
  pub last : v ≤ s.vars

abbrev pub activity_of : OrderState → ℕ → ℕ
activity_of s v = slice_index s.activities (v - 1)

abbrev pub is_held : OrderState → ℕ → Bool
is_held s v = slice_index_or s.held (v - 1) false

-- the least of the held variables that have the greatest activity
pub record IsBest (s : OrderState) (v : ℕ) : Type 0 where
  pub variable : IsVariable s v
  pub held : is_held s v ≡ true
  pub greatest : (w : ℕ) → IsVariable s w → is_held s w ≡ true → activity_of s w ≤ activity_of s v
  pub least : (w : ℕ) → IsVariable s w → is_held s w ≡ true → activity_of s w ≡ activity_of s v →
      v ≤ w

-- no variable is held
abbrev pub IsEmpty : OrderState → Type 0
IsEmpty s = (v : ℕ) → IsVariable s v → is_held s v ≡ false

-- every activity is divided by 2^40, rounding down
abbrev pub scaled : List ℕ → List ℕ
scaled activities = map (λ a. a / 2 ^ 40) activities

-- of each number, whether it is in one of two sets
abbrev pub joined : List Bool → List Bool → List Bool
joined [] ys = []
joined (x ∷ xs) [] = x ∷ xs
joined (x ∷ xs) (y ∷ ys) = (x || y) ∷ joined xs ys

-- no number is in both sets
abbrev pub AreApart : List Bool → List Bool → Type 0
AreApart held idle =
    (x : ℕ) → slice_index_or idle x false ≡ true → slice_index_or held x false ≡ false

-- each number of the set has activity 0
abbrev pub AreAsleep : List ℕ → List Bool → Type 0
AreAsleep activities idle =
    (x : ℕ) → slice_index_or idle x false ≡ true → slice_index activities x ≡ 0

-- the first seat comes before each number of the set
abbrev pub IsAhead : List ℕ → Seats → List Bool → Type 0
IsAhead activities s idle = (x : ℕ) → slice_index_or idle x false ≡ true →
    IsBefore activities (slice_index s.order 0) x

-- some number of the set comes before this one
pub record HasBefore (activities : List ℕ) (idle : List Bool) (x : ℕ) : Type 0 where
  pub number : ℕ
  pub there : slice_index_or idle number false ≡ true
  pub before : IsBefore activities number x

-- some number of the set comes before each of the first seats
abbrev pub IsBehind : List ℕ → Seats → ℕ → List Bool → Type 0
IsBehind activities s count idle =
    (i : ℕ) → i < count → HasBefore activities idle (slice_index s.order i)

-- the held variables are the first in their seats, as a heap, and those of a set, all of activity 0
pub record IsOrderStore (activities : Vec ℕ Global) (seats : Seats) (count : ℕ) (idle : List Bool)
    : Type 0 where
  pub few : vec_len activities ≤ VARIABLE_LIMIT
  pub seated : IsSeated (length activities.items) seats
  pub within : count ≤ length activities.items
  pub heap : IsHeap activities.items seats count 0
  pub whole : length idle ≡ length activities.items
  pub apart : AreApart (held_of count seats) idle
  pub asleep : AreAsleep activities.items idle
