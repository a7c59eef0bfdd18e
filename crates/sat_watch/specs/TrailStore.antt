-- How a trail lies: its entries, a table of the truths of all literals, and one of the variables'
-- places.
use Rattle.std.specs.Prelude.{◌≡◌, ℕ, suc, ◌+◌, ◌-◌, ◌*◌, ◌≤◌, ℤ, pos, negsuc, Bool, true, false, List, reverse, slice_index_or, Some, Vec, vec_len, vec_capacity}
use Rattle.std.specs.Global.{Global}
use Rattle.sat_clause.specs.declared.literal.Lit.{Lit}
use Rattle.sat_clause.specs.Literal.{IsWithin, is_among, negation, variable}
use Rattle.sat_watch.specs.declared.entry.TrailEntry.{TrailEntry}
use Rattle.sat_watch.specs.Trail.{AreWithin, IsTrail, TrailState, falses, place_in}

-- what contracts see of a trail with these entries, the oldest first
abbrev pub trail_state : ℕ → Vec TrailEntry Global → TrailState
trail_state vars entries = record { vars = vars; entries = reverse entries.items }

-- the place of a literal in a table of all literals, as that of truths: those of the variables
-- stand behind its middle, and those of their negations before it
abbrev pub place_by : ℕ → ℤ → ℕ
place_by vars (pos n) = vars + n
place_by vars (negsuc n) = vars - suc n

abbrev pub place_of : ℕ → Lit → ℕ
place_of vars l = place_by vars l.code

-- 2 stands for a false literal, 1 for a true one, and 0 for an open one
abbrev pub truth_by : (is_false is_true : Bool) → ℕ
truth_by true _ = 2
truth_by false true = 1
truth_by false false = 0

abbrev pub truth_in : List TrailEntry → Lit → ℕ
truth_in entries l = truth_by (is_among (falses entries) l) (is_among (falses entries) (negation l))

-- the table tells the truth of each literal
abbrev pub AreTold : ℕ → List TrailEntry → List ℕ → Type 0
AreTold vars entries table = (l : Lit) → IsWithin vars l →
    slice_index_or table (place_of vars l) 0 ≡ truth_in entries l

-- the places are those of the variables on the trail
abbrev pub ArePlacesOf : ℕ → List TrailEntry → List ℕ → Type 0
ArePlacesOf vars entries places =
    (l : Lit) → IsWithin vars l → (n : ℕ) → place_in entries l ≡ Some n →
    slice_index_or places (variable l - 1) 0 ≡ n

-- the tables tell truths and places, and there is room for an entry of each variable
pub record IsTrailStore
    (vars : ℕ) (entries : Vec TrailEntry Global) (truths : Vec ℕ Global) (places : Vec ℕ Global) :
    Type 0 where
  pub trail : IsTrail (trail_state vars entries)
  pub within : AreWithin vars entries.items
  pub room : vars ≤ vec_capacity entries
  pub wide : vec_len truths ≡ suc (vars * 2)
  pub many : vec_len places ≡ vars
  pub told : AreTold vars (reverse entries.items) truths.items
  pub placed : ArePlacesOf vars (reverse entries.items) places.items
