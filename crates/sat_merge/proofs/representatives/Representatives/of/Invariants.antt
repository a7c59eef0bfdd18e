use Rattle.std.proofs.Common.{◌≡◌, ◌+◌, length}
use Rattle.sat_merge.proofs.representatives.Representatives.of.Given as goal

-- as many variables as those of the formula
abbrev pub invariant-loop-at : goal.invariant-loop-at
invariant-loop-at l = length l.representatives ≡ l.formula.cnf.vars + 1
