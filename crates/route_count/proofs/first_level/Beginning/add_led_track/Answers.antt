use Rattle.std.proofs.Common.{◌<◌, arith, get_or, length, sym}
use Rattle.sat_count.specs.Refuting.{begun}
use Rattle.sat_count.proofs.GrowLemmas.{grows-on, row-more, row-none}
use Rattle.problem_facts.specs.Leads.{root_at}
use Rattle.route_count.specs.Said.{led_clause}
use Rattle.route_count.proofs.FirstLemmas.{led-grows}
use Rattle.route_count.proofs.first_level.Beginning.add_led_track.Goals as goal

pub loop-track-init : goal.loop-track-init
loop-track-init c = row-none c.args.refutation.now
    (led_clause c.args.self.now.variables.width (root_at c.args.self.now.trees.now c.args.slot)
    c.args.slot)

pub add_led-requires-clause-begun : goal.add_led-requires-clause-begun
add_led-requires-clause-begun c =
    grows-on (begun c.args.self.now.formula.now.cnf) c.args.refutation.now
    c.loop-track.refutation c.requires.begun c.loop-track.invariant.grows

pub loop-track-preserved : goal.loop-track-preserved
loop-track-preserved c =
    row-more c.args.refutation.now c.loop-track.refutation c.add_led.new.refutation
    c.loop-track.track
    (led_clause c.args.self.now.variables.width (root_at c.args.self.now.trees.now c.args.slot)
    c.args.slot) c.loop-track.invariant c.in-Ok.ensures

pub lead-requires-2 : goal.lead-requires-2
lead-requires-2 c =
    let low : c.args.slot < length c.args.self.now.trees.now.roots =
    omega (arith, c.requires.slot, c.args.self.now.nets.each, c.args.self.now.each) in
    let led = c.args.self.now.are_trees.led c.args.slot c.in-Some.lead low
    (sym c.in-Some.ensures) in
    omega (arith, led.0, low)

pub add_led-requires-clause-led_before : goal.add_led-requires-clause-led_before
add_led-requires-clause-led_before c =
    led-grows c.args.refutation.now c.loop-track.refutation c.args.self.now.trees.now
    c.args.self.now.variables.width (get_or c.args.led.now c.in-Some.lead.from 0)
    c.in-Some.lead.from c.loop-track.invariant.grows
    (c.requires.before c.in-Some.lead (sym c.in-Some.ensures))
