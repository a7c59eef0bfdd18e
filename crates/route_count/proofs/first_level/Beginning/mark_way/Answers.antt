use Rattle.std.proofs.Common.{◌<◌, arith, length, sym}
use Rattle.route_count.proofs.MarkLemmas.{closed-more}
use Rattle.route_count.proofs.first_level.Beginning.mark_way.Goals as goal

pub bounds-passed-lead : goal.bounds-passed-lead
bounds-passed-lead c =
    let low : c.args.slot < length c.args.self.now.trees.now.roots =
    omega (arith, c.requires.slot, c.args.self.now.nets.each, c.args.self.now.each) in
    let led = c.args.self.now.are_trees.led c.args.slot c.in-Some.lead low
    (sym c.in-Some.ensures) in
    omega (arith, led.0, c.requires.slot, c.requires.each)

pub returns-clause-closed : goal.returns-clause-closed
returns-clause-closed c =
    let low : c.args.slot < length c.args.self.now.trees.now.roots =
    omega (arith, c.requires.slot, c.args.self.now.nets.each, c.args.self.now.each) in
    let led = c.args.self.now.are_trees.led c.args.slot c.in-Some.lead low
    (sym c.in-Some.ensures) in
    closed-more c.args.self.now.trees.now c.args.slot c.args.passed.now c.requires.closed
    c.in-Some.lead (sym c.in-Some.ensures) led.0
    (omega (arith, led.0, c.requires.slot, c.requires.each))
