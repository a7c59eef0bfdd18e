use Rattle.std.proofs.Common.{◌≡◌, ◌+◌, ℕ, arith, subst}
use Rattle.sat_count.specs.Descending.{some_of}
use Rattle.sat_count.specs.Rows.{AddsRow}
use Rattle.sat_count.proofs.GrowLemmas.{row-more, row-none}
use Rattle.sat_count.proofs.LevelLemmas.{ground-grows}
use Rattle.sat_count.proofs.ground.Ground.add_some_tracks.Goals as goal

pub loop-place-init : goal.loop-place-init
loop-place-init c = row-none c.args.refutation.now (some_of c.args.self.now)

pub add_some_track-requires-clause-ground : goal.add_some_track-requires-clause-ground
add_some_track-requires-clause-ground c =
    ground-grows c.args.refutation.now c.loop-place.refutation c.args.self.now
    c.loop-place.invariant.grows c.requires

pub loop-place-preserved : goal.loop-place-preserved
loop-place-preserved c =
    row-more c.args.refutation.now c.loop-place.refutation c.add_some_track.new.refutation
    c.loop-place.place (some_of c.args.self.now) c.loop-place.invariant c.in-Ok.ensures

pub returns : goal.returns
returns c =
    let all : c.loop-place.place ≡ c.args.self.now.tracks + 1 =
    omega (arith, c.loop-place-test.false, c.loop-place.auto) in
    subst (λ (n : ℕ). AddsRow c.args.refutation.now c.loop-place.refutation n
    (some_of c.args.self.now)) all c.loop-place.invariant
