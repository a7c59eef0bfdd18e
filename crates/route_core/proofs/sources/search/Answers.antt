use Rattle.std.proofs.Common.{◌+◌, ◌-◌, ◌/◌, ◌<◌, ℕ, length, arith}
use Rattle.route_core.proofs.ListedLemmas.{higher-more, lower-more}
use Rattle.route_core.proofs.sources.search.Goals as goal

pub loop-low-preserved-then-there-id-2 : goal.loop-low-preserved-then-there-id-2
loop-low-preserved-then-there-id-2 c =
    let middle : ℕ = c.loop-low.low + (c.loop-low.high - c.loop-low.low) / 2 in
    let inside : middle < length c.args.added.now =
    omega (arith, c.loop-low.invariant.within, c.loop-low-test.true) in
    record {
      order = omega (arith, c.loop-low-test.true);
      within = c.loop-low.invariant.within;
      lower = lower-more c.args.added.now c.requires c.args.id middle inside _
          c.if-there-id-2.true;
      higher = c.loop-low.invariant.higher;
    }

pub loop-low-preserved : goal.loop-low-preserved
loop-low-preserved c =
    let middle : ℕ = c.loop-low.low + (c.loop-low.high - c.loop-low.low) / 2 in
    let inside : middle < length c.args.added.now =
    omega (arith, c.loop-low.invariant.within, c.loop-low-test.true) in
    record {
      order = omega arith;
      within = omega (arith, inside);
      lower = c.loop-low.invariant.lower;
      higher = higher-more c.args.added.now c.requires c.args.id middle inside
          (record { id = 0; place = 0 })
          (omega (arith, c.if-there-id-2.false, c.if-there-id.false));
    }
