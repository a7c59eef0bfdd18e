use Rattle.std.proofs.Common.{subst}
use Rattle.sat_watch.specs.Watches.{WatchState}
use Rattle.sat_core.specs.Deciding.{GoesOn}
use Rattle.sat_core.proofs.DecideLaws.{goes_propagated}
use Rattle.sat_core.proofs.RankingLaws.{ranked_propagated}
use Rattle.sat_core.proofs.deleting.propagate_at_start.Goals as goal

pub returns-clause-goes : goal.returns-clause-goes
returns-clause-goes c =
    subst (λ (w : WatchState). GoesOn w c.propagate.new.self) c.go_back.ensures.back
    (goes_propagated c.propagate.ensures.propagates)

pub returns-clause-ranked : goal.returns-clause-ranked
returns-clause-ranked c =
    ranked_propagated c.propagate.ensures.propagates c.go_back.ensures.ranked
