use Rattle.std.proofs.Common.{◌≡◌, true, sym, ap, ◌∙◌}
use Rattle.std.specs.List.{list_any}
use Rattle.list_laws.proofs.Members.{In-contains}
use Rattle.fpga_bounds.specs.Keys.{has_elem}
use Rattle.fpga_types.specs.Fit.{same_elem}
use Rattle.route_reach.specs.Printer.{frame_of}
use Rattle.route_reach.proofs.BranchLemmas.{some-found}
use Rattle.route_reach.proofs.EndSteps.{some-lines}
use Rattle.route_reach.proofs.OwnLines.{opin-again, opin-first}
use Rattle.route_reach.proofs.PrintSteps.{first-line}
use Rattle.route_reach.proofs.printer.NetPrinter.come_to_opin.Goals as goal

pub print_opin-requires-clause-quiet : goal.print_opin-requires-clause-quiet
print_opin-requires-clause-quiet c =
    let there : list_any (same_elem c.args.opin) c.args.printed.now.lines.items ≡ true =
    sym (c.requires.so_far.seen c.args.opin c.requires.kind) ∙ sym c.has_elem.ensures
    ∙ c.if-has_elem.true in
    opin-again (frame_of c.args.self.now) c.requires.is.frame c.args.printed.now c.requires.so_far
    c.args.opin (In-contains c.args.self.now.net.now.elems c.args.opin c.requires.own)
    c.requires.kind c.requires.open
    (some-found (same_elem c.args.opin) c.args.printed.now.lines.items there) there

pub print_opin-requires-2-clause-quiet : goal.print_opin-requires-2-clause-quiet
print_opin-requires-2-clause-quiet c =
    let first = first-line (frame_of c.args.self.now) c.requires.is.frame in
    opin-first (frame_of c.args.self.now) c.requires.is.frame c.print_source.new.printed
    c.in-Ok.ensures.so_far c.args.opin
    (In-contains c.args.self.now.net.now.elems c.args.opin c.requires.own) c.requires.kind first.0
    (c.in-Ok.ensures.last ∙ first.1) first.2
    (sym (c.in-Ok.ensures.so_far.seen c.args.opin c.requires.kind)
    ∙ ap (λ (s : _). has_elem s c.args.opin) c.in-Ok.ensures.opins
    ∙ sym c.has_elem.ensures ∙ c.if-has_elem.false)

pub print_opin-requires-2-clause-begun : goal.print_opin-requires-2-clause-begun
print_opin-requires-2-clause-begun c =
    let first = first-line (frame_of c.args.self.now) c.requires.is.frame in
    some-lines c.print_source.new.printed.lines.items first.0 (c.in-Ok.ensures.last ∙ first.1)
