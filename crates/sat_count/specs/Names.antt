-- Literals by the numbers of their variables less one.
use Rattle.std.specs.Prelude.{ℕ, suc, pos, negsuc}
use Rattle.sat_clause.specs.declared.literal.Lit.{Lit}
use Rattle.sat_clause.specs.Literal.{lit}

-- the variable with this number less one is true
abbrev pub yes : ℕ → Lit
yes n = lit (pos (suc n))

-- it is false
abbrev pub no : ℕ → Lit
no n = lit (negsuc n)
