use Rattle.std.proofs.Common.{◌<◌, arith, length, sym}
use Rattle.route_count.proofs.FirstLemmas.{not-first}
use Rattle.route_count.proofs.first_level.Beginning.led_track.Goals as goal

pub returns-clause-reason : goal.returns-clause-reason
returns-clause-reason c = λ r grows led.
    let low : c.args.slot < length c.args.self.now.trees.now.roots =
    omega (arith, c.requires.slot, c.args.self.now.nets.each, c.args.self.now.each) in (
      not-first r c.args.self.now.trees.now c.args.self.now.are_trees
          c.args.self.now.variables.width c.args.track c.requires.track c.args.slot
          c.in-Some.lead low (sym c.in-Some.ensures),
      c.led_by.ensures.led r grows led,
    )
