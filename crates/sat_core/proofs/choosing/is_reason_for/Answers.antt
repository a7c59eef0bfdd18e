use Rattle.std.proofs.Common.{length, ap, subst, ◌∙◌, refl, sym, arith}
use Rattle.std.specs.Prelude.{IfNone}
use Rattle.std.proofs.lemmas.List.{length-reverse}
use Rattle.sat_watch.specs.Trail.{IsOpen}
use Rattle.sat_watch.proofs.PlaceLemmas.{place_entry}
use Rattle.sat_core.proofs.DeletableLaws.{open_no_reason, reason_at}
use Rattle.sat_core.proofs.TrailPlaces.{at_within, read_at}
use Rattle.sat_core.proofs.choosing.is_reason_for.Goals as goal

pub returns-in_default : goal.returns-in_default
returns-in_default c =
    let w = c.args.watches.now in
    let free : IsOpen w.trail c.args.l =
    subst (λ o. IfNone o (IsOpen w.trail c.args.l)) c.in_default.is c.value.ensures.open in
    rw (open_no_reason w.trail c.args.l c.args.l free refl) refl

pub bounds-trail-place : goal.bounds-trail-place
bounds-trail-place c =
    let w = c.args.watches.now in let p = c.place-place.result in
    let stands = place_entry w.trail c.args.l p c.place-place.ensures.place in
    let lt = at_within w.trail p stands.0 stands.1 in
    omega (arith, lt, length-reverse c.args.trail.now, ap length c.requires.trail)

pub returns-in_default-clause : goal.returns-in_default-clause
returns-in_default-clause c =
    let w = c.args.watches.now in let items = c.args.trail.now in
    let p = c.place-place.result in
    let stands = place_entry w.trail c.args.l p c.place-place.ensures.place in
    let lt = at_within w.trail p stands.0 stands.1 in
    let e = c.index-trail-place.result in
    rw (reason_at w.trail c.args.l p e c.place-place.ensures.place
    (read_at items w.trail p e c.requires.trail lt c.index-trail-place.is)
    ∙ (sym c.clause.ensures ∙ c.in_default-clause.is)) refl

pub returns : goal.returns
returns c =
    let w = c.args.watches.now in let items = c.args.trail.now in
    let p = c.place-place.result in
    let stands = place_entry w.trail c.args.l p c.place-place.ensures.place in
    let lt = at_within w.trail p stands.0 stands.1 in
    let e = c.index-trail-place.result in
    rw (reason_at w.trail c.args.l p e c.place-place.ensures.place
    (read_at items w.trail p e c.requires.trail lt c.index-trail-place.is)
    ∙ (sym c.clause.ensures ∙ c.in-Some-clause.is)) refl
