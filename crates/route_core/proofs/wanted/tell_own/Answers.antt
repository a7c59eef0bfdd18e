use Rattle.std.proofs.Common.{◌∙◌}
use Rattle.route_core.proofs.WantedLemmas.{own-next}
use Rattle.route_core.proofs.wanted.tell_own.Goals as goal

pub loop-l-preserved : goal.loop-l-preserved
loop-l-preserved c = record {
  many = c.tell.ensures.many ∙ c.loop-l.invariant.many;
  told = own-next c.args.own.now c.loop-l.l-index c.loop-l-test.true c.args.stamp
      c.args.table.now.items c.loop-l.table.items c.tell.new.table.items c.tell.ensures.here
      c.tell.ensures.others c.loop-l.invariant.told;
}
