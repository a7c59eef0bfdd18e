use Rattle.std.proofs.Common.{◌∙◌}
use Rattle.route_reach.specs.Printer.{frame_of}
use Rattle.route_reach.proofs.EndSteps.{nothing-printed}
use Rattle.route_reach.proofs.printer.NetPrinter.print_lines.Goals as goal

pub loop-i-init : goal.loop-i-init
loop-i-init c = nothing-printed (frame_of c.args.self.now) c.in_ok-printed.printed
    c.in_ok-printed.ensures.lines (c.in_ok-printed.ensures.places ∙ c.len.ensures)
    c.in_ok-printed.ensures.marks c.in_ok-printed.ensures.opins
