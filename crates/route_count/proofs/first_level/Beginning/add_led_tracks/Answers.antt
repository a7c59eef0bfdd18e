use Rattle.std.proofs.Common.{◌≡◌, ℕ, arith, length, subst}
use Rattle.route_count.specs.Firsts.{AreLed}
use Rattle.route_count.proofs.MarkLemmas.{ready-all}
use Rattle.route_count.proofs.first_level.Beginning.add_led_tracks.Goals as goal

pub returns-clause-ready : goal.returns-clause-ready
returns-clause-ready c =
    let all : c.loop-slot.slot ≡ c.args.self.now.variables.slots =
    omega (arith, c.loop-slot-test.false, c.loop-slot.auto) in
    ready-all c.loop-slot.refutation c.args.self.now.trees.now c.args.self.now.variables.width
    (length c.args.self.now.row.now) c.args.self.now.variables.slots
    c.args.self.now.meetings.now c.in_ok-passed.passed.items c.loop-slot.led
    (λ lower higher m order low there.
    let met = (c.args.self.now.met lower higher order low).1 m there in (
      omega (arith, met.lower, c.args.self.now.each),
      omega (arith, met.higher, c.args.self.now.each),
    ))
    c.in_ok-passed.ensures.marked
    (subst (λ (n : ℕ). AreLed c.loop-slot.refutation c.args.self.now.trees.now
    c.args.self.now.variables.width n c.in_ok-passed.passed.items c.loop-slot.led)
    all c.loop-slot.invariant.led)
