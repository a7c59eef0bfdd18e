use Rattle.std.proofs.Common.{ℕ, ◌+◌, ◌*◌, ◌/◌, ap, ◌∙◌}
use Rattle.std.specs.Prelude.{codes}
use Rattle.route_draw.specs.Ruler.{row_place, step_of}
use Rattle.route_draw.specs.declared.scale.TheConstants.{BLOCK, TILE}
use Rattle.route_draw.proofs.RulerLemmas.{numbers-next}
use Rattle.route_draw.proofs.ruler.append_rows.Goals as goal

pub loop-row-preserved : goal.loop-row-preserved
loop-row-preserved c =
    numbers-next (codes "y") (row_place c.args.count) (step_of c.args.count) _ _ c.loop-row.row _ _ _
    c.step-step.ensures.of (ap (λ (n : ℕ). n + BLOCK / 2) (c.block_start.ensures
    ∙ ap (λ (n : ℕ). n * TILE) c.saturating_sub-above.ensures))
    c.loop-row.invariant c.in_ok-append_if.ensures
