-- The logs by which counting in front of another way refutes a formula.
use Rattle.std.specs.Prelude.{◌≡◌, ◌⊎◌, List, []}
use Rattle.desk_io.specs.Files.{Bytes}
use Rattle.sat_clause.specs.Formula.{Cnf}
use Rattle.sat_clause.specs.Step.{Step}
use Rattle.sat_rat.specs.FullJudge.{FullAccepts}

-- numbers alone forbid the width, and the log refutes the formula as full LRAT has it, and nothing
-- is said before the report
pub record IsCountedOut
    (forbidden : Type 0) (formula : Cnf) (log : List Step) (lead : Bytes) : Type 0 where
  pub forbids : forbidden
  pub accepted : FullAccepts formula log
  pub silent : lead ≡ []

-- by counting, or else in the other way
abbrev pub IsRefutedIf : (forbidden otherwise : Type 0) → Cnf → List Step → Bytes → Type 0
IsRefutedIf forbidden otherwise formula log lead =
    IsCountedOut forbidden formula log lead ⊎ ((¬ forbidden) × otherwise)
