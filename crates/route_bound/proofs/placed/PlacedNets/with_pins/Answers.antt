use Rattle.route_bound.proofs.SpanLemmas.{covers-more, widens-more}
use Rattle.route_bound.proofs.placed.PlacedNets.with_pins.Goals as goal
use Rattle.std.proofs.Common.{arith}

pub loop-pin-preserved : goal.loop-pin-preserved
loop-pin-preserved c =
    let wider = c.with_pin-wider.ensures.wider in
    let was = c.loop-pin.invariant in
    record {
      low = omega (arith, wider, was.low);
      high = omega (arith, wider, was.high);
      covers = covers-more c.args.self.now c.args.kind c.args.pins.now c.loop-pin.pin-index _
          c.loop-pin.wider c.with_pin-wider.result c.loop-pin-test.true was.covers
          c.with_pin-wider.ensures.covers wider.0 wider.1;
      by = widens-more c.args.self.now c.args.kind c.args.pins.now c.loop-pin.pin-index _
          c.args.span c.loop-pin.wider c.with_pin-wider.result c.loop-pin-test.true was.by
          c.with_pin-wider.ensures.by;
    }
