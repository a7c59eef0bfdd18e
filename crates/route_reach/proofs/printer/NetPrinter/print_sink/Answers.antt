use Rattle.std.proofs.Common.{◌≡◌, ◌++◌, ◌∷◌, [], List, get_or, ap, ◌∙◌}
use Rattle.std.proofs.lemmas.Option.{get_or_from_slice_get}
use Rattle.std.proofs.lemmas.Result.{on_ok_weaker}
use Rattle.fpga_bounds.proofs.LineLemmas.{NO_ELEM}
use Rattle.fpga_types.specs.declared.route.Elem.{Elem}
use Rattle.route_reach.specs.Printer.{frame_of}
use Rattle.route_reach.proofs.EndSteps.{sink-done}
use Rattle.route_reach.proofs.printer.NetPrinter.print_sink.Goals as goal

pub returns : goal.returns
returns c =
    let line : get_or c.as_slice.result.now c.args.i NO_ELEM ≡ c.requires.line.0 =
    ap (λ (es : List Elem). get_or es c.args.i NO_ELEM) c.as_slice.ensures
    ∙ get_or_from_slice_get c.args.self.now.net.now.elems c.args.i c.requires.line.0 NO_ELEM
    c.requires.line.1 in
    on_ok_weaker c.push.result
    (λ lines. sink-done (frame_of c.args.self.now) c.requires.is.frame c.args.i c.requires.line.0
    c.requires.line.1 c.args.printed.now c.push.new.self c.requires.so_far c.requires.line.2
    (lines ∙ ap (λ (e : Elem). c.args.printed.now.lines.items ++ e ∷ []) line)
    c.push.ensures.marks c.push.ensures.opins) c.push.ensures.lines
