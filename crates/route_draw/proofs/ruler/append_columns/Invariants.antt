-- the numbers so far were added
use Rattle.std.proofs.Common.{◌≡◌, ◌++◌}
use Rattle.std.specs.Prelude.{codes, string_bytes}
use Rattle.route_draw.specs.Ruler.{column_place, numbers, step_of}
use Rattle.route_draw.proofs.ruler.append_columns.Given as goal

abbrev pub invariant-loop-column : goal.invariant-loop-column
invariant-loop-column l = string_bytes l.out ≡ string_bytes l.initial.out
    ++ numbers (step_of l.fn.count) (codes "x") column_place l.column
