use Rattle.std.proofs.Common.{◌<◌, reverse, subst, arith}
use Rattle.std.proofs.lemmas.List.{length-reverse}
use Rattle.std.proofs.lemmas.Option.{slice_get_within}
use Rattle.sat_watch.specs.Watches.{WatchState}
use Rattle.sat_watch.proofs.PlaceLemmas.{place_entry}
use Rattle.sat_watch.proofs.watches.Watches.place.Goals as goal

pub returns-clause-within : goal.returns-clause-within
returns-clause-within c =
    let i = c.self.inside in
    let whole = c.self.invariant.whole in
    let e = place_entry i.trail.entries c.args.l c.place.result c.place.ensures in
    let lt = slice_get_within (reverse i.trail.entries) c.place.result e.0 e.1 in
    subst (λ (s : WatchState). c.place.result < s.vars) c.self.view_is
    (omega (arith, lt, length-reverse i.trail.entries, whole.trail.few, whole.vars))
