use Rattle.std.proofs.Common.{arith, ◌∙◌, ◌++◌, refl, take}
use Rattle.list_laws.proofs.Places.{get-there}
use Rattle.route_draw.proofs.NeedLemmas.{lines-next, lines-whole}
use Rattle.route_draw.proofs.needs.take_lines.Goals as goal

pub loop-elem-preserved : goal.loop-elem-preserved
loop-elem-preserved c = record {
  size = c.take_line.ensures.size ∙ c.loop-elem.invariant.size;
  needs = λ before are.
      lines-next c.args.grid c.take_line.new.needs before c.args.elems.now c.loop-elem.elem-index _
      (c.take_line.ensures.needs (before ++ take c.loop-elem.elem-index c.args.elems.now)
      (c.loop-elem.invariant.needs before are))
      (get-there c.args.elems.now c.loop-elem.elem-index _ _ c.loop-elem-test.true refl);
}

pub returns : goal.returns
returns c = λ before are.
    lines-whole c.args.grid c.loop-elem.needs before c.args.elems.now c.loop-elem.elem-index
    (omega arith) (c.loop-elem.invariant.needs before are)
