use Rattle.std.proofs.Common.{◌≡◌, ◌-◌, ◌≤◌}
use Rattle.std.specs.Prelude.{vec_len}
use Rattle.sat_core.proofs.again.Again.take_open.Given as goal

-- each turn takes a variable
abbrev pub decreases-again : goal.decreases-again
decreases-again l = vec_len l.self-inside.lits - l.self-inside.next

abbrev pub invariant-again : goal.invariant-again
invariant-again l = record {
  same : l.self-inside.lits ≡ l.initial.self-inside.lits;
  behind : l.initial.self-inside.next ≤ l.self-inside.next;
}
