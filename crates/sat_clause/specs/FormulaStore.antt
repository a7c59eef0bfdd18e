-- A formula with its room: what contracts see, and how it lies in two vectors.
use Rattle.std.specs.Prelude.{ℕ, ◌+◌, ◌^◌, ◌<◌, ◌≤◌, max, All, Vec, vec_len, vec_capacity}
use Rattle.std.specs.Global.{Global}
use Rattle.sat_clause.specs.declared.limits.TheConstants.{VARIABLE_LIMIT}
use Rattle.sat_clause.specs.declared.literal.Lit.{Lit}
use Rattle.sat_clause.specs.Literal.{IsWithin}
use Rattle.sat_clause.specs.Formula.{Cnf}
use Rattle.sat_clause.specs.Parts.{RiseTo}

-- the formula, and how many more clauses and literals can be pushed without memory
pub record FormulaState : Type 0 where
  pub cnf : Cnf
  pub clause_room : ℕ
  pub lit_room : ℕ

-- the number of variables is set, and there is room for so many more clauses and literals
abbrev pub reserved : FormulaState → ℕ → ℕ → ℕ → FormulaState
reserved old vars clauses lits = record {
  cnf = record { vars = vars; clauses = old.cnf.clauses };
  clause_room = max old.clause_room clauses;
  lit_room = max old.lit_room lits;
}

-- the literals, of variables 1 to `vars`, stand clause behind clause; both vectors have the room
pub record IsFormulaStore
    (vars : ℕ) (lits : Vec Lit Global) (ends : Vec ℕ Global) (clause_room lit_room : ℕ)
    : Type 0 where
  pub rise : RiseTo (vec_len lits) 0 ends.items
  pub within : All (IsWithin vars) lits.items
  pub few_vars : vars ≤ VARIABLE_LIMIT
  pub few_clauses : vec_len ends + clause_room < 2 ^ 32
  pub clauses_fit : vec_len ends + clause_room ≤ vec_capacity ends
  pub few_lits : vec_len lits + lit_room < 2 ^ 32
  pub lits_fit : vec_len lits + lit_room ≤ vec_capacity lits
