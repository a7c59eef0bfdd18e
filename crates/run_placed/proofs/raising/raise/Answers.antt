use Rattle.std.proofs.Common.{refl}
use Rattle.run_placed.proofs.RaisedLaws.{reason-next}
use Rattle.run_placed.proofs.raising.raise.Goals as goal

pub loop-width-preserved : goal.loop-width-preserved
loop-width-preserved g c = (
  reason-next c.args.placed.now c.args.cut c.loop-width.width c.in-Some.found
      c.loop-width.auto.width (rw c.in-Some.is at c.in_ok-found.ensures),
  refl,
)
