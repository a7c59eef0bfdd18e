-- The limits of formulas and logs, each as its number.
use Rattle.std.proofs.Common.{◌≡◌, refl}
use Rattle.sat_clause.specs.declared.limits.TheConstants.{CLAUSE_LIMIT, ID_LIMIT, LITERAL_LIMIT, VARIABLE_LIMIT}

pub variables : VARIABLE_LIMIT ≡ 100000000
variables = refl

pub clauses : CLAUSE_LIMIT ≡ 40000000
clauses = refl

pub ids : ID_LIMIT ≡ 4294967295
ids = refl

pub literals : LITERAL_LIMIT ≡ 2147483647
literals = refl
