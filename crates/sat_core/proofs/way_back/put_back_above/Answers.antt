use Rattle.std.proofs.Common.{◌-◌, inr, length, ap, arith}
use Rattle.std.proofs.lemmas.List.{length-reverse}
use Rattle.std.proofs.lemmas.List.Elements.{All-contains}
use Rattle.sat_clause.specs.Literal.{IsWithin}
use Rattle.sat_watch.specs.declared.entry.TrailEntry.{TrailEntry}
use Rattle.sat_core.specs.Analysis.{IsAt}
use Rattle.sat_core.proofs.TrailPlaces.{at_contains, read_at}
use Rattle.sat_core.proofs.WayBackLaws.{put_back_all, put_back_none, put_back_one}
use Rattle.sat_core.proofs.way_back.put_back_above.Goals as goal
use Rattle.sat_core.proofs.way_back.put_back_above.Goals.{After-index-trail-left}

-- the entry that is read stands at the place before those that are left
module _ (c : After-index-trail-left) where
  stands : IsAt c.args.watches.now.trail (c.loop-left.left - 1) c.index-trail-left.result
  stands =
      let items = c.trail-trail.result.now in
      let value = c.trail-trail.ensures.value in
      let within = c.loop-left.invariant.within in
      read_at items c.args.watches.now.trail (c.loop-left.left - 1) c.index-trail-left.result value
      (omega (arith, length-reverse items, ap length value, within, c.loop-left-test.true))
      c.index-trail-left.is

  inside : IsWithin c.args.watches.now.vars (c.index-trail-left.result).lit
  inside =
      let w = c.args.watches.now in
      let e = c.index-trail-left.result in
      All-contains (λ (x : TrailEntry). IsWithin w.vars x.lit) w.trail e
      c.trail-trail.ensures.within (at_contains w.trail (c.loop-left.left - 1) e stands)

pub loop-left-init : goal.loop-left-init
loop-left-init c =
    let w = c.args.watches.now in
    let items = c.trail-trail.result.now in
    record {
      back = put_back_none w (length items) c.args.ranking.now (omega
          (arith, length-reverse items, ap length c.trail-trail.ensures.value)) c.requires;
      within = omega arith;
    }

pub returns-then-entry-level : goal.returns-then-entry-level
returns-then-entry-level c =
    put_back_all c.args.watches.now c.args.level c.loop-left.left c.loop-left.ranking
    c.trail-trail.ensures.levels (inr (
      c.loop-left.left - 1,
      c.index-trail-left.result,
      stands (goal.at.returns-then-entry-level c).After-index-trail-left,
      omega (arith, c.loop-left-test.true),
      c.if-entry-level.true,
    )) c.loop-left.invariant.back

pub put_back-requires : goal.put_back-requires
put_back-requires c =
    let within = inside (goal.at.put_back-requires c).After-index-trail-left in
    record { first = within.0; last = omega (arith, within.1, c.loop-left.invariant.back.vars) }

pub loop-left-preserved : goal.loop-left-preserved
loop-left-preserved c =
    let at = (goal.at.loop-left-preserved c).After-index-trail-left in
    let within = inside at in
    record {
      back = rw c.put_back.ensures
          (put_back_one c.args.watches.now c.loop-left.left (c.loop-left.left - 1)
          c.loop-left.ranking c.index-trail-left.result (stands at)
          (omega (arith, c.loop-left-test.true)) within.0 within.1 c.loop-left.invariant.back);
      within = omega (arith, c.loop-left.invariant.within);
    }
