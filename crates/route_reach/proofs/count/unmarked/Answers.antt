use Rattle.std.proofs.Common.{◌+◌, ℕ, false, ◌∙◌, ap, arith, sym}
use Rattle.std.specs.Prelude.{not, slice_index_or}
use Rattle.route_reach.proofs.CountSteps.{none-passes, one-passes}
use Rattle.route_reach.proofs.count.unmarked.Goals as goal
use Rattle.route_reach.proofs.count.unmarked.Goals.{then-not-row-t, else-not-row-t}

pub loop-t-preserved : goal.loop-t-preserved
loop-t-preserved c =
    elim c.if-not-row-t.branch [
      | then-not-row-t w ↦ record {
        count = w.count-is ∙ ap (λ (n : ℕ). n + 1) c.loop-t.invariant.count
            ∙ sym (one-passes (λ t. not (slice_index_or c.args.row.now t false)) c.loop-t.t
            (ap not w.if-not-row-t.true));
        few = omega (arith, w.count-is, c.loop-t.invariant.few);
      }
      | else-not-row-t w ↦ record {
        count = w.count-is ∙ c.loop-t.invariant.count
            ∙ sym (none-passes (λ t. not (slice_index_or c.args.row.now t false)) c.loop-t.t
            (ap not w.if-not-row-t.false));
        few = omega (arith, w.count-is, c.loop-t.invariant.few);
      }
    ]
