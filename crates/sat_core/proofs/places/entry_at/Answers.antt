use Rattle.std.proofs.Common.{◌≡◌, get_or}
use Rattle.std.proofs.lemmas.List.Elements.{All-contains}
use Rattle.sat_clause.specs.Literal.{IsWithin}
use Rattle.sat_watch.specs.declared.entry.TrailEntry.{TrailEntry}
use Rattle.sat_watch.proofs.FewLemmas.{few_entries}
use Rattle.sat_core.specs.Analysis.{IsAt}
use Rattle.sat_core.proofs.LearnLaws.{reason_attached}
use Rattle.sat_core.proofs.TrailPlaces.{at_contains, read_at}
use Rattle.sat_core.proofs.places.entry_at.Goals as goal
use Rattle.sat_core.proofs.places.entry_at.Goals.{After-trail}

-- the entry that is read stands at the place
at : (c : After-trail) (e : TrailEntry) → e ≡ get_or c.trail.result.now c.args.place e →
    IsAt c.args.watches.now.trail c.args.place e
at c e read =
    read_at c.trail.result.now c.args.watches.now.trail c.args.place e c.trail.ensures.value
    c.requires read

pub returns-clause-within : goal.returns-clause-within
returns-clause-within c =
    let w = c.args.watches.now in
    let here = (goal.at.returns-clause-within c).After-trail in
    let e = c.index-trail-place.result in
    All-contains (λ (x : TrailEntry). IsWithin w.vars x.lit) w.trail e
    c.trail.ensures.within (at_contains w.trail c.args.place e (at here e c.index-trail-place.is))

pub returns-clause-attached : goal.returns-clause-attached
returns-clause-attached c r some =
    let w = c.args.watches.now in
    let here = (goal.at.returns-clause-attached c).After-trail in
    let e = c.index-trail-place.result in
    reason_attached w.clauses w.level w.trail e r c.trail.ensures.levels
    (at_contains w.trail c.args.place e (at here e c.index-trail-place.is)) some

pub returns-clause-few : goal.returns-clause-few
returns-clause-few c =
    let w = c.args.watches.now in
    few_entries w.vars w.trail c.trail.ensures.within c.trail.ensures.once
