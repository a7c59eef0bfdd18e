use Rattle.std.proofs.Common.{refl, sym, arith}
use Rattle.fpga_route.proofs.FormLemmas.{comma_parts-at, comma_parts-none}
use Rattle.route_picture.proofs.cut.comma_sides.Goals as goal

pub returns-then-b-eq44 : goal.returns-then-b-eq44
returns-then-b-eq44 c =
    rw (c.split_at.ensures.front, c.split_at-then-b-eq44.ensures.back)
    (sym (comma_parts-at c.args.text.now c.loop-i.i c.loop-i-test.true c.loop-i.invariant
    (rw c.if-b-eq44.true refl)))

pub returns : goal.returns
returns c = sym (comma_parts-none c.args.text.now (λ k h. c.loop-i.invariant k (omega arith)))
