use Rattle.std.proofs.Common.{◌<◌, ℕ, arith, length, subst, sym}
use Rattle.std.proofs.lemmas.List.{get_or-set_other}
use Rattle.route_count.specs.Firsts.{IsLed}
use Rattle.route_count.proofs.MarkLemmas.{all-led-more}
use Rattle.route_count.proofs.first_level.Beginning.add_passed.Goals as goal

pub add_led_track-requires-clause-before : goal.add_led_track-requires-clause-before
add_led_track-requires-clause-before c = λ lead some.
    let low : c.args.slot < length c.args.self.now.trees.now.roots =
    omega (arith, c.requires.slot, c.args.self.now.nets.each, c.args.self.now.each) in
    let early = (c.args.self.now.are_trees.led c.args.slot lead low some).0 in
    let marked = c.requires.closed c.args.slot lead (omega arith)
    (omega (arith, c.requires.slot, c.requires.passed)) c.if-not-passed-slot.false some in
    subst (λ (n : ℕ). IsLed c.args.refutation.now c.args.self.now.trees.now
    c.args.self.now.variables.width n lead.from)
    (sym (get_or-set_other c.args.led.now c.args.slot lead.from c.last_id.result 0
    (λ e. absurd (omega (arith, e, early)))))
    (c.requires.before lead.from early marked)

pub returns-clause-led : goal.returns-clause-led
returns-clause-led c =
    all-led-more c.args.refutation.now c.add_led_track.new.refutation
    c.args.self.now.trees.now c.args.self.now.variables.width c.args.slot c.last_id.result
    c.args.passed.now c.args.led.now (omega (arith, c.requires.slot, c.requires.led))
    c.in-Ok.ensures.grows
    (subst (λ (n : ℕ). IsLed c.add_led_track.new.refutation c.args.self.now.trees.now
    c.args.self.now.variables.width n c.args.slot) (sym c.last_id.ensures) c.in-Ok.ensures.led)
    c.requires.before
