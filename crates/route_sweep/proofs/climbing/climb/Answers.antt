use Rattle.std.proofs.Common.{sym, subst, arith, Ok, Err, ap, ◌∙◌}
use Rattle.route_sweep.specs.Found.{FindsShort}
use Rattle.route_sweep.specs.declared.found.Found.TheVariants.{Routed, Spent}
use Rattle.route_sweep.proofs.ClimbLemmas.{climb-ends, climb-goes-on, climb-is-over, climb-starts, refuted-climbs}
use Rattle.route_sweep.proofs.climbing.climb.Goals as goal

pub loop-width-init : goal.loop-width-init
loop-width-init g c = (omega arith, omega (arith, c.requires.most), climb-starts _ _ _ _ _ _ _)

pub loop-width-preserved : goal.loop-width-preserved
loop-width-preserved g c = (
  omega arith,
  omega (arith, c.loop-width-test.true),
  climb-goes-on _ _ _ _ _ _ _ _ _ _ _ c.loop-width.invariant.2 c.one_width.ensures.finds
      c.in-Ok-Refuted.field-0-0 (c.in-Ok-Refuted.is ∙ ap Ok c.in-Ok-Refuted.field-0-is),
)

pub returns-in-Ok-Routed-clause-climbs : goal.returns-in-Ok-Routed-clause-climbs
returns-in-Ok-Routed-clause-climbs g c =
    climb-ends _ _ _ _ _ _ _ _ _ _ _ c.loop-width.invariant.2 c.one_width.ensures.finds _
    (Ok Routed) (omega (arith, c.loop-width-test.true))
    (c.in-Ok-Routed.is ∙ ap Ok c.in-Ok-Routed.field-0-is) (λ bad. absurd bad)

pub returns-in-Ok-Spent-clause-climbs : goal.returns-in-Ok-Spent-clause-climbs
returns-in-Ok-Spent-clause-climbs g c =
    climb-ends _ _ _ _ _ _ _ _ _ _ _ c.loop-width.invariant.2 c.one_width.ensures.finds _
    (Ok (Spent c.in-Ok-Spent.learned)) (omega (arith, c.loop-width-test.true))
    (c.in-Ok-Spent.is ∙ ap Ok c.in-Ok-Spent.field-0-is) (λ bad. absurd bad)

pub returns-in-Err-clause-climbs : goal.returns-in-Err-clause-climbs
returns-in-Err-clause-climbs g c =
    climb-ends _ _ _ _ _ _ _ _ _ _ _ c.loop-width.invariant.2 c.one_width.ensures.finds _
    (Err c.in-Err.stop) (omega (arith, c.loop-width-test.true)) c.in-Err.is (λ bad. absurd bad)

pub returns-clause-climbs : goal.returns-clause-climbs
returns-clause-climbs g c =
    let over = climb-is-over _ _ _ _ _ _ c.args.most _ _ _ c.requires.most.0
    c.loop-width.invariant.2
    (omega (arith, c.loop-width.invariant.1, c.loop-width-test.false)) in (
      c.args.most,
      over.came,
      refuted-climbs over.came c.args.most over.refuted,
      over.ends,
    )

pub returns-in-Ok-Spent-clause-stopped : goal.returns-in-Ok-Spent-clause-stopped
returns-in-Ok-Spent-clause-stopped g c short =
    c.one_width.ensures.stopped (subst (FindsShort (g.W.Searcher.budget c.args.way.now))
    (sym (c.in-Ok-Spent.is ∙ ap Ok c.in-Ok-Spent.field-0-is)) short)
