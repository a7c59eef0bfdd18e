-- What an assignment says of literals.
use Rattle.std.specs.Prelude.{◌≡◌, ℕ, ◌-◌, Bool, false, List, All, slice_index_or, vec_len, if◌then◌else◌}
use Rattle.sat_clause.specs.declared.literal.Lit.{Lit}
use Rattle.sat_clause.specs.Literal.{IsWithin, is_among, is_positive, variable}
use Rattle.model_text.specs.declared.assignment.Assignment.{Assignment}
use Rattle.model_text.specs.Models.{gives_both}

-- the number of variables
abbrev pub vars_in : Assignment → ℕ
vars_in a = vec_len a.positive

-- the mark of a literal, in the one list or the other
abbrev pub mark_of : (positive negative : List Bool) → Lit → Bool
mark_of positive negative l =
    slice_index_or (if is_positive l then positive else negative) (variable l - 1) false

-- the literal is said to be true
abbrev pub gives : Assignment → Lit → Bool
gives a l = mark_of a.positive.items a.negative.items l

-- so many variables: of their literals exactly these are said to be true, none of them both ways
pub record Gives (vars : ℕ) (literals : List Lit) (a : Assignment) : Type 0 where
  pub many : vars_in a ≡ vars
  pub within : All (IsWithin vars) literals
  pub apart : gives_both literals ≡ false
  pub each : (l : Lit) → IsWithin vars l → gives a l ≡ is_among literals l
