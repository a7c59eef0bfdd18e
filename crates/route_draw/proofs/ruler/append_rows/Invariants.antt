-- the numbers so far were added
use Rattle.std.proofs.Common.{◌≡◌, ◌++◌}
use Rattle.std.specs.Prelude.{codes, string_bytes}
use Rattle.route_draw.specs.Ruler.{row_place, numbers, step_of}
use Rattle.route_draw.proofs.ruler.append_rows.Given as goal

abbrev pub invariant-loop-row : goal.invariant-loop-row
invariant-loop-row l = string_bytes l.out ≡ string_bytes l.initial.out
    ++ numbers (step_of l.fn.count) (codes "y") (row_place l.fn.count) l.row
