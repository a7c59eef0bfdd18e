use Rattle.std.proofs.Common.{◌++◌, ◌∷◌, [], None, ap, ◌∙◌}
use Rattle.std.specs.List.{last_or}
use Rattle.std.proofs.lemmas.Result.{on_ok_weaker}
use Rattle.list_laws.proofs.Places.{last-push}
use Rattle.fpga_types.specs.declared.route.Elem.{Elem}
use Rattle.route_reach.specs.Printer.{frame_of}
use Rattle.route_reach.specs.Printing.{wire_line, wire_of}
use Rattle.route_reach.proofs.PrintSteps.{on_ok_two, wire-done}
use Rattle.route_reach.proofs.printer.NetPrinter.print_wire.Goals as goal

pub returns-clause-so_far : goal.returns-clause-so_far
returns-clause-so_far c = on_ok_two c.push_wire.result
    (λ lines marks. wire-done (frame_of c.args.self.now) c.requires.is.frame c.args.printed.now
    c.push_wire.new.self c.requires.so_far c.args.k c.requires.deep.0 c.requires.deep.1
    c.requires.quiet c.requires.deep.2 c.requires.begun
    (lines ∙ ap (λ (e : Elem). c.args.printed.now.lines.items ++ e ∷ []) c.line_of-e.ensures) marks
    c.push_wire.ensures.opins)
    c.push_wire.ensures.lines c.push_wire.ensures.marks

pub returns-clause-last : goal.returns-clause-last
returns-clause-last c = on_ok_weaker c.push_wire.result
    (λ lines. ap (last_or None)
    (lines ∙ ap (λ (e : Elem). c.args.printed.now.lines.items ++ e ∷ []) c.line_of-e.ensures)
    ∙ last-push None c.args.printed.now.lines.items
    (wire_line (wire_of (frame_of c.args.self.now) c.args.k)))
    c.push_wire.ensures.lines
