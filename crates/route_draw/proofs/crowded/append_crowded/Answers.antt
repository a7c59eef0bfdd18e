use Rattle.std.proofs.Common.{arith}
use Rattle.std.specs.Prelude.{nat_lt}
use Rattle.route_draw.proofs.CountLemmas.{at-most-one}
use Rattle.route_draw.proofs.CrowdLemmas.{marks-next}
use Rattle.route_draw.proofs.crowded.append_crowded.Goals as goal

pub loop-number-preserved : goal.loop-number-preserved
loop-number-preserved c = record {
  few = let one = at-most-one (nat_lt c.args.width c.need_at-want.result) c.in_ok-crowded.field-0
      c.in_ok-crowded.ensures.count in
      omega (arith, one, c.loop-number.invariant.few);
  marks = λ wants are.
      marks-next c.args.grid wants c.args.width c.loop-number.number c.loop-number.crowded
      c.in_ok-crowded.field-0 c.need_at-want.result c.cell_of-cell.result _ _ _
      c.cell_of-cell.ensures.within c.cell_of-cell.ensures.number
      (c.need_at-want.ensures wants are c.cell_of-cell.ensures.within)
      c.in_ok-crowded.ensures.count c.in_ok-crowded.ensures.added
      (c.loop-number.invariant.marks wants are);
}
