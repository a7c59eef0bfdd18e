use Rattle.std.proofs.Common.{inr}
use Rattle.search_tests.proofs.WatchLemmas.{is_pending_now, one_is_open}
use Rattle.search_tests.proofs.watches.attach_pending.Goals as goal

pub attach-requires-clause-may : goal.attach-requires-clause-may
attach-requires-clause-may c = inr (inr (one_is_open c.args.watches.now c.requires))

pub returns : goal.returns
returns c =
    is_pending_now c.args.watches.now c.attach.new.self 7 c.attach.result c.requires
    c.attach.ensures.ok
