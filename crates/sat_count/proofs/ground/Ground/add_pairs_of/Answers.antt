use Rattle.std.proofs.Common.{◌≡◌, ℕ, arith, subst}
use Rattle.sat_count.specs.Descending.{pair_clause}
use Rattle.sat_count.specs.Rows.{AddsRow}
use Rattle.sat_count.proofs.GrowLemmas.{row-more, row-none}
use Rattle.sat_count.proofs.LevelLemmas.{ground-grows, ready-grows}
use Rattle.sat_count.proofs.ground.Ground.add_pairs_of.Goals as goal

pub loop-track-init : goal.loop-track-init
loop-track-init c = row-none c.args.refutation.now
    (pair_clause c.args.kind c.args.self.now c.args.lower c.args.higher)

pub add_pair-requires-clause-ground : goal.add_pair-requires-clause-ground
add_pair-requires-clause-ground c =
    ground-grows c.args.refutation.now c.loop-track.refutation c.args.self.now
    c.loop-track.invariant.grows c.requires.ground

pub add_pair-requires-clause-ready : goal.add_pair-requires-clause-ready
add_pair-requires-clause-ready c =
    ready-grows c.args.refutation.now c.loop-track.refutation c.args.kind c.args.self.now
    c.loop-track.invariant.grows c.requires.ready

pub loop-track-preserved : goal.loop-track-preserved
loop-track-preserved c =
    row-more c.args.refutation.now c.loop-track.refutation c.add_pair.new.refutation
    c.loop-track.track (pair_clause c.args.kind c.args.self.now c.args.lower c.args.higher)
    c.loop-track.invariant c.in-Ok.ensures

pub returns : goal.returns
returns c =
    let all : c.loop-track.track ≡ c.args.self.now.tracks =
    omega (arith, c.loop-track-test.false, c.loop-track.auto) in
    subst (λ (n : ℕ). AddsRow c.args.refutation.now c.loop-track.refutation n
    (pair_clause c.args.kind c.args.self.now c.args.lower c.args.higher)) all
    c.loop-track.invariant
