use Rattle.route_core.proofs.ListedLemmas.{none-below}
use Rattle.route_core.proofs.sources.number_of.Goals as goal

-- the ids rise from above this one
pub returns-then-id-added : goal.returns-then-id-added
returns-then-id-added c =
    none-below c.args.added.now c.requires c.args.id (record { id = 0; place = 0 })
    c.if-id-added.true
