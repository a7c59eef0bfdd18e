-- The literals of a formula stay within its variables.
use Rattle.std.proofs.Common.{◌≢◌, ℕ, ◌≤◌, List, [], ◌∷◌, length, ap, arith, All}
use Rattle.sat_clause.specs.declared.literal.Lit.{Lit}
use Rattle.sat_clause.specs.Literal.{IsWithin}
use Rattle.sat_clause.specs.Parts.{parts_from, RiseTo}

-- more variables hold the literals too; without clauses there are none
pub IsWithin-more : (vars more : ℕ) (lits : List Lit) (ends : List ℕ) → All (IsWithin vars) lits →
    RiseTo (length lits) 0 ends → (parts_from 0 lits ends ≢ [] → vars ≤ more)
    → All (IsWithin more) lits
IsWithin-more vars more lits [] all rise up k d within = absurd (omega arith)
IsWithin-more vars more lits (end ∷ ends) all rise up k d within =
    let wider : vars ≤ more = up (λ e. absurd (omega (arith, ap length e))) in
    let here = all k d within in
    (here.0, omega arith)
