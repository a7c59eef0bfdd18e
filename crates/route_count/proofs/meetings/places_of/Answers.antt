use Rattle.std.proofs.Common.{◌≡◌, ◌∙◌, ℕ, arith, length, length-set, subst}
use Rattle.route_count.specs.Meetings.{ArePlaces}
use Rattle.route_count.proofs.MeetingLemmas.{places-more}
use Rattle.route_count.proofs.meetings.places_of.Goals as goal

pub loop-at-preserved : goal.loop-at-preserved
loop-at-preserved c = record {
  each = length-set c.loop-at.places.items _ _ ∙ c.loop-at.invariant.each;
  places = places-more c.args.row.now c.loop-at.places.items c.loop-at.at c.requires.differ
      c.loop-at-test.true
      (let low = c.requires.row c.loop-at.at 0 c.loop-at-test.true in
      omega (arith, low, c.loop-at.invariant.each))
      c.loop-at.invariant.places;
}

pub returns-clause-places : goal.returns-clause-places
returns-clause-places c =
    let all : c.loop-at.at ≡ length c.args.row.now =
    omega (arith, c.loop-at-test.false, c.loop-at.auto) in
    subst (λ (n : ℕ). ArePlaces c.args.row.now n c.loop-at.places.items) all
    c.loop-at.invariant.places
