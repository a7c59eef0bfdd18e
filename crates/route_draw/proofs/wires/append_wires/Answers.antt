use Rattle.std.proofs.Common.{arith, refl, ◌∙◌}
use Rattle.std.specs.Prelude.{string_bytes}
use Rattle.list_laws.proofs.Places.{get-there}
use Rattle.route_draw.proofs.WireLemmas.{behind-next, behind-none, wires-next, wires-none, wires-whole}
use Rattle.route_draw.proofs.wires.append_wires.Goals as goal

pub loop-elem-init : goal.loop-elem-init
loop-elem-init c = record {
  behind = behind-none c.args.elems.now;
  added = λ layout are. wires-none layout c.args.elems.now (string_bytes c.args.out.now);
}

pub loop-elem-preserved : goal.loop-elem-preserved
loop-elem-preserved c =
    let at = get-there c.args.elems.now c.loop-elem.elem-index _ _ c.loop-elem-test.true refl in
    record {
      behind = c.is_sink-behind_sink.ensures
          ∙ behind-next c.args.elems.now c.loop-elem.elem-index _ at;
      added = λ layout are. wires-next layout c.args.elems.now c.loop-elem.elem-index _ _ _ _ _ at
          c.loop-elem.invariant.behind (c.loop-elem.invariant.added layout are)
          (c.in_ok-append_line.ensures layout are);
    }

pub returns : goal.returns
returns c = λ layout are.
    wires-whole layout c.args.elems.now c.loop-elem.elem-index _ _ (omega arith)
    (c.loop-elem.invariant.added layout are)
