use Rattle.sat_core.proofs.DeletableLaws.{one_part}
use Rattle.sat_core.proofs.choosing.one_that_goes.Goals as goal

pub returns-clause-part : goal.returns-clause-part
returns-clause-part c =
    rw (c.in_ok-push.ensures.items, c.new-deleted.ensures.items)
    (one_part c.args.candidates.now c.least_active.result _ c.least_active.ensures)
