use Rattle.std.proofs.Common.{◌≡◌, ◌++◌, take}
use Rattle.run_checks.specs.Causes.{cause_lines}
use Rattle.run_checks.proofs.cause_lines.append_lines.Given as goal

abbrev pub invariant-loop-at : goal.invariant-loop-at
invariant-loop-at l =
    l.lines.items ≡ l.initial.lines.items ++ cause_lines l.nets (take l.at-index l.causes)
