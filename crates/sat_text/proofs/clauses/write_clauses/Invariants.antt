-- the texts of the first clauses are passed on, and their literals are of the formula's variables
use Rattle.std.proofs.Common.{◌≡◌, ◌≤◌, ◌-◌, true, length, take, drop}
use Rattle.std.specs.Prelude.{All}
use Rattle.sat_clause.specs.Literal.{IsWithin}
use Rattle.sat_text.specs.Printed.{clause_text}
use Rattle.sat_text.proofs.PieceLemmas.{IsPassed}
use Rattle.sat_text.proofs.clauses.write_clauses.Given as goal

abbrev pub invariant-loop-next : goal.invariant-loop-next
invariant-loop-next g l = record {
  most : l.next ≤ length l.formula.cnf.clauses;
  passed : IsPassed clause_text l.formula.cnf.clauses (g.S.Shelf.state l.initial.shelf)
      l.initial.writer (g.S.Shelf.state l.shelf) l.writer (drop l.next l.formula.cnf.clauses);
  within : All (All (IsWithin l.formula.cnf.vars)) (take l.next l.formula.cnf.clauses);
  created : (g.S.Shelf.state l.shelf).is_created ≡ true;
}

abbrev pub decreases-loop-next : goal.decreases-loop-next
decreases-loop-next g l = length l.formula.cnf.clauses - l.next
