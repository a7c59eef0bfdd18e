-- Which variables a search may decide: those that are held, among which are all without a value.
use Rattle.std.specs.Prelude.{◌≡◌, ◌≢◌, ℕ, zero, suc, ◌+◌, ◌*◌, ◌/◌, ◌%◌, ◌^◌, ◌≤◌, Bool, true, false, List, [], ◌∷◌, length, None}
use Rattle.sat_clause.specs.Literal.{positive}
use Rattle.sat_order.specs.Order.{IsVariable, OrderState, activity_of, is_held}
use Rattle.sat_watch.specs.declared.entry.TrailEntry.{TrailEntry}
use Rattle.sat_watch.specs.Trail.{value_in}

-- a step is no greater than an activity may be and has some parts, and the mean of lengths stays
-- small
pub record IsRankingStore (by parts average : ℕ) : Type 0 where
  pub step : by ≤ 2 ^ 62
  pub some : 1 ≤ parts
  pub mean : average ≤ 2 ^ 50

-- the same variables are held
pub record SameHeld (old new : OrderState) : Type 0 where
  pub vars : new.vars ≡ old.vars
  pub held : new.held ≡ old.held

-- of the variables 1 to n each that is not held has a value
pub record IsRanked (n : ℕ) (trail : List TrailEntry) (order : OrderState) : Type 0 where
  pub vars : order.vars ≡ n
  pub many : length order.held ≡ n
  pub valued : (v : ℕ) → IsVariable order v → is_held order v ≡ false →
      value_in trail (positive v) ≢ None

-- how many variables are held
abbrev pub held_count : List Bool → ℕ
held_count [] = 0
held_count (true ∷ rest) = suc (held_count rest)
held_count (false ∷ rest) = held_count rest

-- the draw behind one
abbrev pub next_draw : ℕ → ℕ
next_draw s = (1103515245 * s + 12345) % 2 ^ 31

-- what so many draws from a seed end with
abbrev pub drawn : ℕ → ℕ → ℕ
drawn seed zero = seed
drawn seed (suc n) = next_draw (drawn seed n)

-- the activity that a seed draws for a variable; 0 draws none
abbrev pub first_activity : ℕ → ℕ → ℕ
first_activity zero v = 0
first_activity (suc seed) v = drawn (suc seed) v / 65536 % 1024

-- each variable has the activity that the seed draws
abbrev pub AreDrawn : ℕ → OrderState → Type 0
AreDrawn seed order =
    (v : ℕ) → IsVariable order v → activity_of order v ≡ first_activity seed v
