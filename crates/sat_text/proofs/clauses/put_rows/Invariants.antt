-- the rows from clause i on stand at the end of the room
use Rattle.std.proofs.Common.{◌≡◌, ◌≤◌, drop, length}
use Rattle.std.specs.Prelude.{All, flat_map}
use Rattle.sat_clause.specs.Literal.{IsWithin}
use Rattle.sat_text.specs.Printed.{clause_text}
use Rattle.sat_text.specs.Rows.{between}
use Rattle.sat_text.specs.declared.row.TheConstants.{ROW_ROOM}
use Rattle.sat_text.proofs.clauses.put_rows.Given as goal

abbrev pub invariant-loop-i : goal.invariant-loop-i
invariant-loop-i l = record {
  from : l.first ≤ l.i;
  before : l.start ≤ ROW_ROOM;
  long : length l.room ≡ ROW_ROOM;
  put : drop l.start l.room ≡ flat_map clause_text (between l.i l.behind l.formula.cnf.clauses);
  within : All (All (IsWithin l.formula.cnf.vars)) (between l.i l.behind l.formula.cnf.clauses);
}
