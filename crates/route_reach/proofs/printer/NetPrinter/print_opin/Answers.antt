use Rattle.std.proofs.Common.{None, ap, ◌∙◌}
use Rattle.std.specs.List.{last_or}
use Rattle.std.proofs.lemmas.Result.{on_ok_weaker}
use Rattle.list_laws.proofs.Places.{last-push}
use Rattle.route_reach.specs.Printer.{frame_of}
use Rattle.route_reach.proofs.PrintSteps.{on_ok_two, opin-done}
use Rattle.route_reach.proofs.printer.NetPrinter.print_opin.Goals as goal

pub returns-clause-so_far : goal.returns-clause-so_far
returns-clause-so_far c = on_ok_two c.push_opin.result
    (λ lines opins. opin-done (frame_of c.args.self.now) c.requires.is.frame c.args.printed.now
    c.push_opin.new.self c.requires.so_far c.args.opin c.requires.kind c.requires.own
    c.requires.quiet c.requires.begun lines c.push_opin.ensures.marks opins)
    c.push_opin.ensures.lines c.push_opin.ensures.opins

pub returns-clause-last : goal.returns-clause-last
returns-clause-last c = on_ok_weaker c.push_opin.result
    (λ lines. ap (last_or None) lines ∙ last-push None c.args.printed.now.lines.items c.args.opin)
    c.push_opin.ensures.lines
