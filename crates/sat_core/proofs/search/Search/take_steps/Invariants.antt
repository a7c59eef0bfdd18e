use Rattle.std.proofs.Common.{◌≡◌, ◌≤◌}
use Rattle.sat_clause.specs.Formula.{Cnf}
use Rattle.sat_core.specs.Levels.{level_of}
use Rattle.sat_core.specs.Underway.{MayTurn}
use Rattle.sat_core.proofs.search.Search.take_steps.Given as goal

-- the steps so far are taken, at level 0, and what holds of the formula and the log still does
abbrev pub invariant-loop : goal.invariant-loop
invariant-loop l = record {
  level : level_of l.self.value.trail ≡ 0;
  may : (formula : Cnf) → MayTurn l.initial.self formula l.log.steps →
      MayTurn l.self formula l.log.steps;
  some : (formula : Cnf) × MayTurn l.self formula l.log.steps;
  counted : l.self.taken ≡ l.counter;
  no_fewer : l.initial.self.taken ≤ l.self.taken;
}
