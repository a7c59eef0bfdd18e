use Rattle.std.proofs.Common.{◌≡◌, ◌+◌, ◌-◌}
use Rattle.std.specs.Prelude.{map}
use Rattle.std.specs.List.{range_with_len}
use Rattle.rows.proofs.cases.series.Failing.calls.Given as goal

-- the numbers from the first on were pushed, up to this one
abbrev pub invariant-loop-call : goal.invariant-loop-call
invariant-loop-call l =
    l.shelf.items ≡ map (λ k. l.fn.number + k) (range_with_len 0 (l.call - l.fn.number))
