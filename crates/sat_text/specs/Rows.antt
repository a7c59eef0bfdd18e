-- What writing the rows of some clauses leaves.
use Rattle.std.specs.Prelude.{ℕ, ◌<◌, ◌≤◌, List, length, take, drop, flat_map, All}
use Rattle.desk_io.specs.ShelfState.{ShelfState}
use Rattle.desk_io.specs.Writing.{PassesOn}
use Rattle.fpga_text.specs.Bytes.{Bytes}
use Rattle.sat_clause.specs.Formula.{Cnf}
use Rattle.sat_clause.specs.Literal.{Clause, IsWithin}
use Rattle.sat_text.specs.Printed.{clause_text}

-- the clauses from one to the one before another
abbrev pub between : (first behind : ℕ) → List Clause → List Clause
between first behind clauses = drop first (take behind clauses)

-- these clauses, one at least, were written, and they are of the formula's variables
pub record IsWrittenTo
    (formula : Cnf) (first next : ℕ) (before : ShelfState) (waiting : Bytes) (now : ShelfState)
    (still : Bytes)
    : Type 0 where
  pub more : first < next
  pub most : next ≤ length formula.clauses
  pub passed : PassesOn before waiting (flat_map clause_text (between first next formula.clauses))
      now still
  pub within : All (All (IsWithin formula.vars)) (between first next formula.clauses)
