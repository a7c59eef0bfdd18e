use Rattle.std.proofs.Common.{◌≡◌, ◌∙◌, Some, ap, subst, arith}
use Rattle.sat_watch.specs.Trail.{TrailState, place_in}
use Rattle.sat_watch.proofs.PlaceLemmas.{place_read, placed}
use Rattle.sat_watch.proofs.trail.Trail.place.Goals as goal

pub returns : goal.returns
returns c =
    let p = c.self.inside in
    let store = c.self.invariant in
    let valued = rw (← c.self.view_is) at c.requires.valued in
    let within = rw (← c.self.view_is) at c.requires.within in
    let at = placed _ c.args.l valued in
    let same = place_read p.vars p.entries.items p.places.items
    (omega (arith, store.many, p.places.ok.0)) store.placed
    c.args.l c.variable.result c.index.result.now at.0 within c.variable.ensures c.index.ensures
    at.1 in
    subst (λ (t : TrailState). place_in t.entries c.args.l ≡ Some c.index.result.now)
    c.self.view_is (at.1 ∙ ap Some same)
