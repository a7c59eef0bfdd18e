use Rattle.std.proofs.Common.{◌≡◌, ◌+◌, ℕ, arith, subst}
use Rattle.sat_count.specs.Descending.{pair_clause}
use Rattle.sat_count.specs.Rows.{AddsPairs}
use Rattle.sat_count.proofs.GrowLemmas.{pairs-more, pairs-none}
use Rattle.sat_count.proofs.LevelLemmas.{ground-grows, ready-grows}
use Rattle.sat_count.proofs.ground.Ground.add_pairs.Goals as goal

pub loop-higher-init : goal.loop-higher-init
loop-higher-init c = pairs-none c.args.refutation.now c.args.self.now.tracks
    (pair_clause c.args.kind c.args.self.now)

pub add_pairs_below-requires-clause-ground : goal.add_pairs_below-requires-clause-ground
add_pairs_below-requires-clause-ground c =
    ground-grows c.args.refutation.now c.loop-higher.refutation c.args.self.now
    c.loop-higher.invariant.grows c.requires.ground

pub add_pairs_below-requires-clause-ready : goal.add_pairs_below-requires-clause-ready
add_pairs_below-requires-clause-ready c =
    ready-grows c.args.refutation.now c.loop-higher.refutation c.args.kind c.args.self.now
    c.loop-higher.invariant.grows c.requires.ready

pub loop-higher-preserved : goal.loop-higher-preserved
loop-higher-preserved c =
    pairs-more c.args.refutation.now c.loop-higher.refutation c.add_pairs_below.new.refutation
    c.loop-higher.higher c.args.self.now.tracks (pair_clause c.args.kind c.args.self.now)
    c.loop-higher.invariant c.in-Ok.ensures

pub returns : goal.returns
returns c =
    let all : c.loop-higher.higher ≡ c.args.self.now.tracks + 1 =
    omega (arith, c.loop-higher-test.false, c.loop-higher.auto) in
    subst (λ (n : ℕ). AddsPairs c.args.refutation.now c.loop-higher.refutation n
    c.args.self.now.tracks (pair_clause c.args.kind c.args.self.now)) all
    c.loop-higher.invariant
