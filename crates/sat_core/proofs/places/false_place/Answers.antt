use Rattle.sat_watch.proofs.PlaceLemmas.{place_entry}
use Rattle.sat_core.proofs.TrailPlaces.{at_within}
use Rattle.sat_core.proofs.places.false_place.Goals as goal

pub returns-clause-on : goal.returns-clause-on
returns-clause-on c =
    let trail = c.args.watches.now.trail in
    let e = place_entry trail c.args.l c.place.result c.place.ensures.place in
    at_within trail c.place.result e.0 e.1
