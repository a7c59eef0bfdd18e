use Rattle.route_reach.specs.Printer.{frame_of}
use Rattle.route_reach.specs.Printing.{IsPrintedTo}
use Rattle.route_reach.proofs.printer.NetPrinter.print_lines.Given as goal

abbrev pub invariant-loop-i : goal.invariant-loop-i
invariant-loop-i l = IsPrintedTo (frame_of l.self) l.i l.printed
