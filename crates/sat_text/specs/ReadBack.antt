-- Formulas and logs that are read back as they are printed.
use Rattle.std.specs.Prelude.{◌≡◌, ℕ, ◌<◌, ◌≤◌, ℤ, pos, ⊤, List, [], ◌∷◌, length, All, Some}
use Rattle.sat_clause.specs.declared.limits.TheConstants.{CLAUSE_LIMIT, ID_LIMIT, VARIABLE_LIMIT}
use Rattle.sat_clause.specs.Formula.{Cnf}
use Rattle.sat_clause.specs.Literal.{IsWithin}
use Rattle.sat_clause.specs.Step.{Step, Added, Erased}
use Rattle.sat_text.specs.CnfText.{ReadsCnf}
use Rattle.sat_text.specs.LratText.{raised}
use Rattle.sat_text.specs.Printed.{cnf_text}

-- the formula has no more variables and clauses than may be read, and literals of its variables
pub record IsPrintable (cnf : Cnf) : Type 0 where
  pub few_vars : cnf.vars ≤ VARIABLE_LIMIT
  pub few_clauses : length cnf.clauses ≤ CLAUSE_LIMIT
  pub within : All (All (IsWithin cnf.vars)) cnf.clauses

-- the printed form reads as the formula, if it has no more clauses than may be read
abbrev pub ReadsBackIfFew : Cnf → Type 0
ReadsBackIfFew cnf = length cnf.clauses ≤ CLAUSE_LIMIT → ReadsCnf (cnf_text cnf) cnf

-- the number is one of those that may be read as an id or a hint
pub record IsIdNumber (number : ℤ) : Type 0 where
  pub id : ℕ
  pub is : number ≡ pos id
  pub some : 1 ≤ id
  pub few : id ≤ ID_LIMIT

-- the step has numbers that may be read, and if it adds a clause its id is above this number
abbrev pub IsPrintableStep : ℕ → Step → Type 0
IsPrintableStep above (Added id clause hints) =
    (above < id) × (id ≤ ID_LIMIT) × All (IsWithin VARIABLE_LIMIT) clause × All IsIdNumber hints
IsPrintableStep above (Erased id ids) = (1 ≤ id) × (id ≤ ID_LIMIT) × All IsIdNumber ids

-- the log has such steps, and the id of an added clause is above this number and all earlier ones
abbrev pub IsPrintableLog : ℕ → List Step → Type 0
IsPrintableLog above [] = ⊤
IsPrintableLog above (step ∷ steps) =
    IsPrintableStep above step × IsPrintableLog (raised above (Some step)) steps
