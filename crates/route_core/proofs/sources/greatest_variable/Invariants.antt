-- no variable of the formula and of the steps so far is above the number
use Rattle.std.proofs.Common.{◌≤◌, take, All}
use Rattle.sat_clause.specs.declared.limits.TheConstants.{LITERAL_LIMIT}
use Rattle.sat_clause.specs.Literal.{IsWithin}
use Rattle.route_core.specs.SourceStore.{StepWithin}
use Rattle.route_core.proofs.sources.greatest_variable.Given as goal

abbrev pub invariant-loop-place : goal.invariant-loop-place
invariant-loop-place l = record {
  few : l.most ≤ LITERAL_LIMIT;
  inputs : All (All (IsWithin l.most)) l.formula.cnf.clauses;
  added : All (StepWithin l.most) (take l.place l.log.steps);
}
