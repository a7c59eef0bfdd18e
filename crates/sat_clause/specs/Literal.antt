-- Literals and clauses as in DIMACS: a positive number is a variable, a negative one its negation.
use Rattle.std.specs.Prelude.{ℕ, zero, suc, ◌≤◌, ℤ, pos, negsuc, neg_ℤ, nat_abs, Bool, false, true, List}
use Rattle.std.specs.Ordering.{int_eq}
use Rattle.std.specs.List.{list_any}
use Rattle.sat_clause.specs.declared.limits.TheConstants.{LITERAL_LIMIT}
use Rattle.sat_clause.specs.declared.literal.Lit.{Lit}

-- a clause is its literals in order, and says that one of them is true
abbrev pub Clause : Type 0
Clause = List Lit

-- the literal with this signed number
abbrev pub lit : ℤ → Lit
lit z = record { code = z }

-- the literal that is true where this one is false
abbrev pub negation : Lit → Lit
negation l = lit (neg_ℤ l.code)

-- the number of a literal's variable
abbrev pub variable : Lit → ℕ
variable l = nat_abs l.code

-- the literal of a variable that is not negated
abbrev pub positive : ℕ → Lit
positive n = lit (pos n)

-- the number is above zero
abbrev pub is_above_zero : ℤ → Bool
is_above_zero (pos zero) = false
is_above_zero (pos (suc n)) = true
is_above_zero (negsuc n) = false

-- the literal is a variable and not a negation
abbrev pub is_positive : Lit → Bool
is_positive l = is_above_zero l.code

-- the literal is one of the variables 1 to n or of their negations
abbrev pub IsWithin : ℕ → Lit → Type 0
IsWithin n l = (1 ≤ variable l) × (variable l ≤ n)

-- the signed number is not zero, and its negation fits 32 bits too
abbrev pub IsLiteral : Lit → Type 0
IsLiteral l = IsWithin LITERAL_LIMIT l

-- the literal is among these
abbrev pub is_among : List Lit → Lit → Bool
is_among set l = list_any (λ m. int_eq m.code l.code) set
