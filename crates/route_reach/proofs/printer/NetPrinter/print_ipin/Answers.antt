use Rattle.std.proofs.Common.{◌≡◌, ◌++◌, ◌∷◌, [], List, Some, get_or, sym, ap, subst, ◌∙◌}
use Rattle.std.specs.Prelude.{ℕ, slice_get}
use Rattle.std.proofs.lemmas.Option.{get_or_from_slice_get}
use Rattle.std.proofs.lemmas.Result.{on_ok_weaker}
use Rattle.fpga_bounds.proofs.LineLemmas.{NO_ELEM}
use Rattle.fpga_graph.specs.GraphOf.{GraphOf}
use Rattle.fpga_graph.specs.Wires.{Reaches}
use Rattle.fpga_types.specs.Pins.{HasPin}
use Rattle.fpga_types.specs.Slots.{elem_pin}
use Rattle.fpga_types.specs.declared.route.Elem.{Elem}
use Rattle.route_reach.specs.Printer.{frame_of}
use Rattle.route_reach.specs.Printing.{wire_of}
use Rattle.route_reach.proofs.EndSteps.{ipin-done, ipin-kinds, open-here}
use Rattle.route_reach.proofs.PinWires.{ipin-known, ipin-served}
use Rattle.route_reach.proofs.printer.NetPrinter.print_ipin.Goals as goal

-- the line that is read
read : (elems given : List Elem) (i : ℕ) (e : Elem) → given ≡ elems → slice_get elems i ≡ Some e
    → get_or given i NO_ELEM ≡ e
read elems given i e same at = ap (λ (es : List Elem). get_or es i NO_ELEM) same
    ∙ get_or_from_slice_get elems i e NO_ELEM at

pub wire_before-requires-clause-pin : goal.wire_before-requires-clause-pin
wire_before-requires-clause-pin c =
    let line = c.requires.line in
    let same : get_or c.as_slice.result.now c.args.i NO_ELEM ≡ line.0 =
    read c.args.self.now.net.now.elems c.as_slice.result.now c.args.i line.0 c.as_slice.ensures
    line.1 in
    let has : elem_pin line.0 ≡ Some c.in-Some.pin =
    sym (ap elem_pin same) ∙ sym c.pin.ensures ∙ c.in-Some.is in
    subst (λ (g : GraphOf). HasPin g.arch c.in-Some.pin) (sym c.requires.is.graph)
    (ipin-known (frame_of c.args.self.now) c.requires.is.frame c.args.i line.0 line.1 line.2
    c.in-Some.pin has)

pub unreachable-requires-in_default-wire_before : goal.unreachable-requires-in_default-wire_before
unreachable-requires-in_default-wire_before c =
    let line = c.requires.line in
    let same : get_or c.as_slice.result.now c.args.i NO_ELEM ≡ line.0 =
    read c.args.self.now.net.now.elems c.as_slice.result.now c.args.i line.0 c.as_slice.ensures
    line.1 in
    let has : elem_pin line.0 ≡ Some c.in-Some.pin =
    sym (ap elem_pin same) ∙ sym c.pin.ensures ∙ c.in-Some.is in
    let served = ipin-served (frame_of c.args.self.now) c.requires.is.frame c.args.i line.0 line.1
    line.2 c.in-Some.pin has in
    c.wire_before.ensures.none c.in_default-wire_before.is served.number served.reached served.is
    (subst (λ (g : GraphOf). Reaches g c.in-Some.pin
    (wire_of (frame_of c.args.self.now) served.number)) (sym c.requires.is.graph) served.reaches)

pub come_to_wire-requires-clause-open : goal.come_to_wire-requires-clause-open
come_to_wire-requires-clause-open c =
    let line = c.requires.line in
    open-here (frame_of c.args.self.now) c.requires.is.frame c.args.i line.0 line.1
    c.args.printed.now c.requires.so_far (ipin-kinds line.0.kind line.2).0

pub returns : goal.returns
returns c =
    let line = c.requires.line in
    let same : get_or c.as_slice.result.now c.args.i NO_ELEM ≡ line.0 =
    read c.args.self.now.net.now.elems c.as_slice.result.now c.args.i line.0 c.as_slice.ensures
    line.1 in
    let has : elem_pin line.0 ≡ Some c.in-Some.pin =
    sym (ap elem_pin same) ∙ sym c.pin.ensures ∙ c.in-Some.is in
    let found = c.wire_before.ensures.found c.in-Some-wire_before.k c.in-Some-wire_before.is in
    on_ok_weaker c.push.result
    (λ lines. ipin-done (frame_of c.args.self.now) c.requires.is.frame c.args.i line.0 line.1
    c.args.printed.now c.come_to_wire.new.printed c.push.new.self c.requires.so_far line.2
    c.in-Some.pin has c.in-Some-wire_before.k found.0 found.1
    (subst (λ (g : GraphOf). Reaches g c.in-Some.pin
    (wire_of (frame_of c.args.self.now) c.in-Some-wire_before.k)) c.requires.is.graph found.2)
    c.in-Ok.ensures.so_far c.in-Ok.ensures.ends c.in-Ok.ensures.last
    (lines ∙ ap (λ (e : Elem). c.come_to_wire.new.printed.lines.items ++ e ∷ []) same)
    c.push.ensures.marks c.push.ensures.opins) c.push.ensures.lines
