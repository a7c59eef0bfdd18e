use Rattle.std.proofs.Common.{refl, ◌∙◌}
use Rattle.route_reach.specs.Printer.{frame_of}
use Rattle.route_reach.proofs.PrintedNets.{net-printed}
use Rattle.route_reach.proofs.printer.NetPrinter.print_net.Goals as goal

pub returns : goal.returns
returns c =
    net-printed (frame_of c.args.self.now) c.requires.frame c.in_ok-lines.field-0
    c.in_ok-lines.ensures c.args.self.now.net.now.k c.args.self.now.net.now.line c.in_ok-name.name
    c.of.result c.of-2.result c.in_ok-name.ensures refl
    c.of.ensures
    (c.of-2.ensures ∙ c.new.ensures.items)
