use Rattle.std.proofs.Common.{◌∙◌, ◌≡◌, ℕ, length, ap, sym, arith, take}
use Rattle.std.proofs.Math.Seq.{take-length}
use Rattle.std.specs.List.{sum_by}
use Rattle.run_stats.specs.Sizes.{added_by, capped, deleted_by, hinted_by, step_said}
use Rattle.run_stats.proofs.SizeLemmas.{added-sum, capped-next, sum-next}
use Rattle.run_stats.proofs.sizes.LogSize.of.Goals as goal

pub loop-at-preserved : goal.loop-at-preserved
loop-at-preserved c =
    let steps = c.args.log.now.steps in
    let at = c.loop-at.at in
    let step = step_said c.step-step.result in
    let there = c.step-step.ensures.value in
    let added = sum-next added_by steps at step there in
    let deleted = capped-next c.loop-at.size.deleted c.deleted_by.result
    (sum_by deleted_by (take at steps)) (deleted_by step) c.loop-at.invariant.deleted
    c.deleted_by.ensures in
    let hints = capped-next c.loop-at.size.hints c.hinted_by.result
    (sum_by hinted_by (take at steps)) (hinted_by step) c.loop-at.invariant.hints
    c.hinted_by.ensures in
    record {
      learned = omega (arith, added, c.loop-at.invariant.learned, c.added_by.ensures.value);
      few = omega (arith, c.loop-at.invariant.few, c.added_by.ensures.one);
      deleted = c.saturating_add.ensures ∙ deleted
          ∙ ap capped (sym (sum-next deleted_by steps at step there));
      hints = c.saturating_add-in-loop-at.ensures ∙ hints
          ∙ ap capped (sym (sum-next hinted_by steps at step there));
    }

pub returns-clause-learned : goal.returns-clause-learned
returns-clause-learned c =
    let steps = c.args.log.now.steps in
    let all : c.loop-at.at ≡ length steps =
    omega (arith, c.loop-at-test.false, c.loop-at.auto.at-end, c.len-at-end.ensures) in
    c.loop-at.invariant.learned
    ∙ ap (λ (n : ℕ). sum_by added_by (take n steps)) all
    ∙ ap (sum_by added_by) (take-length steps) ∙ added-sum steps
