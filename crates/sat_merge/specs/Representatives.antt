-- Which variables follow from another one.
use Rattle.std.specs.Prelude.{ℕ, ◌==◌, Bool, false, List, Option, None, Some, slice_get}
use Rattle.sat_clause.specs.declared.literal.Lit.{Lit}
use Rattle.sat_clause.specs.Literal.{variable}
use Rattle.sat_merge.specs.declared.representatives.ImpliedVariable.{ImpliedVariable}

-- it follows from no other one by a clause
abbrev pub is_alone : Option ImpliedVariable → Bool
is_alone None = false
is_alone (Some f) = f.by == 0

-- the variable is a representative, if only of itself
abbrev pub is_representative : List ImpliedVariable → ℕ → Bool
is_representative implied v = is_alone (slice_get implied v)

-- the literal is of such a variable
abbrev pub keeps : List ImpliedVariable → Lit → Bool
keeps implied l = is_representative implied (variable l)
