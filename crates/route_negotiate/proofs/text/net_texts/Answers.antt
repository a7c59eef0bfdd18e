use Rattle.std.proofs.Common.{arith}
use Rattle.route_negotiate.proofs.LineLemmas.{nets_more}
use Rattle.route_negotiate.proofs.text.net_texts.Goals as goal

pub loop-number-preserved : goal.loop-number-preserved
loop-number-preserved c = (
  grind arith,
  rw (c.in_ok-push.ensures.items)
      (nets_more _ _ c.loop-number.last _ _ c.in_ok-text.text c.loop-number.invariant.1
      c.in_ok-text.ensures.sound c.in_ok-text.ensures.line c.in_ok-text.ensures.elems),
)
