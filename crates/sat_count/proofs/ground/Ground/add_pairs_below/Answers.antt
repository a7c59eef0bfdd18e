use Rattle.std.proofs.Common.{◌≡◌, ℕ, arith, subst}
use Rattle.sat_count.specs.Descending.{pair_clause}
use Rattle.sat_count.specs.Rows.{AddsRows}
use Rattle.sat_count.proofs.GrowLemmas.{rows-more, rows-none}
use Rattle.sat_count.proofs.LevelLemmas.{ground-grows, ready-grows}
use Rattle.sat_count.proofs.ground.Ground.add_pairs_below.Goals as goal

pub loop-lower-init : goal.loop-lower-init
loop-lower-init c = rows-none c.args.refutation.now c.args.self.now.tracks
    (λ lower. pair_clause c.args.kind c.args.self.now lower c.args.higher)

pub add_pairs_of-requires-clause-ground : goal.add_pairs_of-requires-clause-ground
add_pairs_of-requires-clause-ground c =
    ground-grows c.args.refutation.now c.loop-lower.refutation c.args.self.now
    c.loop-lower.invariant.grows c.requires.ground

pub add_pairs_of-requires-clause-ready : goal.add_pairs_of-requires-clause-ready
add_pairs_of-requires-clause-ready c =
    ready-grows c.args.refutation.now c.loop-lower.refutation c.args.kind c.args.self.now
    c.loop-lower.invariant.grows c.requires.ready

pub loop-lower-preserved : goal.loop-lower-preserved
loop-lower-preserved c =
    rows-more c.args.refutation.now c.loop-lower.refutation c.add_pairs_of.new.refutation
    c.loop-lower.lower c.args.self.now.tracks
    (λ lower. pair_clause c.args.kind c.args.self.now lower c.args.higher)
    c.loop-lower.invariant c.in-Ok.ensures

pub returns : goal.returns
returns c =
    let all : c.loop-lower.lower ≡ c.args.higher =
    omega (arith, c.loop-lower-test.false, c.loop-lower.auto) in
    subst (λ (n : ℕ). AddsRows c.args.refutation.now c.loop-lower.refutation n
    c.args.self.now.tracks (λ lower. pair_clause c.args.kind c.args.self.now lower c.args.higher))
    all c.loop-lower.invariant
