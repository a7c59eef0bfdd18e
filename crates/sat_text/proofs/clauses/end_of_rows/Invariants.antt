-- the clauses up to the end have room, and what is free is what they leave
use Rattle.std.proofs.Common.{◌≤◌, ◌-◌, length}
use Rattle.sat_text.proofs.clauses.end_of_rows.Given as goal

abbrev pub invariant-loop-end : goal.invariant-loop-end
invariant-loop-end l = record {
  from : l.first ≤ l.end;
  within : l.end ≤ length l.formula.cnf.clauses;
}

abbrev pub decreases-loop-end : goal.decreases-loop-end
decreases-loop-end l = length l.formula.cnf.clauses - l.end
