use Rattle.std.proofs.Common.{subst}
use Rattle.std.specs.Prelude.{IfNone}
use Rattle.sat_watch.specs.Trail.{IsOpen}
use Rattle.sat_watch.specs.Watches.{WatchState}
use Rattle.sat_watch.proofs.TrailLemmas.{no_value}
use Rattle.sat_watch.proofs.watches.Watches.value.Goals as goal

pub returns-clause-open : goal.returns-clause-open
returns-clause-open c =
    subst (λ (s : WatchState). IfNone c.value.result (IsOpen s.trail c.args.l)) c.self.view_is
    (no_value c.self.inside.trail.entries c.args.l c.value.result c.value.ensures)
