use Rattle.std.proofs.Common.{◌≡◌, ◌+◌, ℕ, arith, length, subst}
use Rattle.sat_count.specs.Refuting.{begun}
use Rattle.sat_count.specs.Rows.{AddsPairs}
use Rattle.sat_count.proofs.GrowLemmas.{grows-on, pairs-more, pairs-none}
use Rattle.route_count.specs.Firsts.{apart_of}
use Rattle.route_count.proofs.FirstLemmas.{ready-grows}
use Rattle.route_count.proofs.first_level.Beginning.add_pairs.Goals as goal

pub loop-higher-init : goal.loop-higher-init
loop-higher-init c = pairs-none c.args.refutation.now c.args.self.now.variables.width
    (apart_of c.args.self.now.variables.width c.args.self.now.row.now)

pub add_pairs_below-requires-clause-begun : goal.add_pairs_below-requires-clause-begun
add_pairs_below-requires-clause-begun c =
    grows-on (begun c.args.self.now.formula.now.cnf) c.args.refutation.now
    c.loop-higher.refutation c.requires.begun c.loop-higher.invariant.grows

pub add_pairs_below-requires-clause-ready : goal.add_pairs_below-requires-clause-ready
add_pairs_below-requires-clause-ready c =
    ready-grows c.args.refutation.now c.loop-higher.refutation c.args.self.now.trees.now
    c.args.self.now.variables.width (length c.args.self.now.row.now)
    c.args.self.now.meetings.now c.args.led.now c.loop-higher.invariant.grows c.requires.ready

pub loop-higher-preserved : goal.loop-higher-preserved
loop-higher-preserved c =
    pairs-more c.args.refutation.now c.loop-higher.refutation c.add_pairs_below.new.refutation
    c.loop-higher.higher c.args.self.now.variables.width
    (apart_of c.args.self.now.variables.width c.args.self.now.row.now) c.loop-higher.invariant
    c.in-Ok.ensures

pub returns : goal.returns
returns c =
    let all : c.loop-higher.higher ≡ c.args.self.now.variables.width + 1 =
    omega (arith, c.loop-higher-test.false, c.loop-higher.auto) in
    subst (λ (n : ℕ). AddsPairs c.args.refutation.now c.loop-higher.refutation n
    c.args.self.now.variables.width
    (apart_of c.args.self.now.variables.width c.args.self.now.row.now)) all
    c.loop-higher.invariant
