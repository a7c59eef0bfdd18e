use Rattle.std.proofs.Common.{◌≢◌, ◌-◌, ◌∙◌, ℕ, false, None, slice_set, ap, subst, arith}
use Rattle.sat_clause.specs.Literal.{positive}
use Rattle.sat_order.specs.Order.{OrderState}
use Rattle.sat_watch.specs.Trail.{value_in}
use Rattle.sat_watch.specs.Watches.{assumed}
use Rattle.sat_core.specs.Ranking.{IsRanked, held_count}
use Rattle.sat_core.proofs.DecideLaws.{is_some_some, variable_value}
use Rattle.sat_core.proofs.RankingLaws.{held_fewer, ranked_decided, ranked_taken}
use Rattle.sat_core.proofs.deciding.decide.Goals as goal

pub value-requires : goal.value-requires
value-requires c =
    let best = c.in-Some.ensures.best in
    record {
      within = (
        omega (arith, best.variable.first, c.literal-l.ensures),
        omega (
          arith,
          best.variable.last,
          c.loop-v.invariant.ranked.vars,
          c.literal-l.ensures,
        ),
      );
    }

pub returns-then-is_none-clause-fewer : goal.returns-then-is_none-clause-fewer
returns-then-is_none-clause-fewer c = λ _.
    let o = c.loop-v.ranking in
    let fewer = held_fewer o.held (c.in-Some.v - 1) c.in-Some.ensures.best.held in
    omega (
      arith,
      fewer,
      ap (λ (x : OrderState). held_count x.held) c.in-Some.ensures.taken,
      c.loop-v.invariant.few,
    )

pub returns-then-is_none-clause-ranked : goal.returns-then-is_none-clause-ranked
returns-then-is_none-clause-ranked c =
    let w = assumed c.literal-l.result c.loop-v.watches in
    let o = c.loop-v.ranking in
    let best = c.in-Some.ensures.best in
    rw (c.assume.ensures, c.in-Some.ensures.taken)
    (subst (λ (v : ℕ). IsRanked w.vars w.trail
    (record o { held = slice_set o.held (v - 1) false })) c.literal-l.ensures
    (ranked_decided c.loop-v.watches o c.literal-l.result
    (omega (arith, best.variable.first, c.literal-l.ensures)) c.loop-v.invariant.ranked))

pub loop-v-preserved : goal.loop-v-preserved
loop-v-preserved c =
    let trail = c.loop-v.watches.trail in
    let v = c.in-Some.v in
    let fewer = held_fewer (c.loop-v.ranking).held (v - 1) c.in-Some.ensures.best.held in
    let l = c.literal-l.result in
    let value : value_in trail (positive v) ≢ None =
    subst (λ (w : ℕ). value_in trail (positive w) ≢ None) c.literal-l.ensures
    (variable_value trail l (λ none. is_some_some c.value.result c.if-is_none.ensures
    (c.value.ensures.value ∙ none))) in
    record {
      ranked = rw c.in-Some.ensures.taken
          (ranked_taken c.loop-v.watches.vars trail c.loop-v.ranking v
          c.in-Some.ensures.best.variable.first value c.loop-v.invariant.ranked);
      same = c.loop-v.invariant.same;
      few = omega (
        arith,
        fewer,
        ap (λ (x : OrderState). held_count x.held) c.in-Some.ensures.taken,
        c.loop-v.invariant.few,
      );
    }

pub loop-v-smaller : goal.loop-v-smaller
loop-v-smaller c =
    let fewer = held_fewer (c.loop-v.ranking).held (c.in-Some.v - 1)
    c.in-Some.ensures.best.held in
    omega (arith, fewer, ap (λ (x : OrderState). held_count x.held) c.in-Some.ensures.taken)
