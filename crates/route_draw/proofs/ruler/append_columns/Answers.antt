use Rattle.std.proofs.Common.{ℕ, ◌+◌, ◌/◌, ap}
use Rattle.std.specs.Prelude.{codes}
use Rattle.route_draw.specs.Ruler.{column_place, step_of}
use Rattle.route_draw.specs.declared.scale.TheConstants.{BLOCK}
use Rattle.route_draw.proofs.RulerLemmas.{numbers-next}
use Rattle.route_draw.proofs.ruler.append_columns.Goals as goal

pub loop-column-preserved : goal.loop-column-preserved
loop-column-preserved c =
    numbers-next (codes "x") column_place (step_of c.args.count) _ _ c.loop-column.column _ _ _
    c.step-step.ensures.of (ap (λ (n : ℕ). n + BLOCK / 2) c.block_start.ensures)
    c.loop-column.invariant c.in_ok-append_if.ensures
