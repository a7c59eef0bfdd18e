-- no literal so far is said to be true
use Rattle.std.proofs.Common.{◌≡◌, drop}
use Rattle.std.specs.List.{list_any}
use Rattle.model_text.specs.Assignments.{gives}
use Rattle.model_text.proofs.assignment.Assignment.meets.Given as goal

abbrev pub invariant-loop-literal : goal.invariant-loop-literal
invariant-loop-literal l =
    list_any (gives l.self) (drop l.literal-index l.clause) ≡ list_any (gives l.self) l.clause
