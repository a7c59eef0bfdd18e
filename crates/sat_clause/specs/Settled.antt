-- When clauses are settled where some literals are false.
use Rattle.std.specs.Prelude.{◌≢◌}
use Rattle.sat_clause.specs.declared.literal.Lit.{Lit}
use Rattle.sat_clause.specs.declared.reading.Reading.{Reading}
use Rattle.sat_clause.specs.declared.reading.Reading.TheVariants.{Conflict, Unit}

-- the clause is not false, and makes no literal true
pub record IsQuiet (reading : Reading) : Type 0 where
  pub no_conflict : reading ≢ Conflict
  pub no_unit : (l : Lit) → reading ≢ Unit l
