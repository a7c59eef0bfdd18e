use Rattle.std.proofs.Common.{◌≡◌, ℕ, arith, length, subst}
use Rattle.sat_count.specs.Refuting.{begun}
use Rattle.sat_count.specs.Rows.{AddsRows}
use Rattle.sat_count.proofs.GrowLemmas.{grows-on, rows-more, rows-none}
use Rattle.route_count.specs.Firsts.{apart_of}
use Rattle.route_count.proofs.FirstLemmas.{ready-grows}
use Rattle.route_count.proofs.first_level.Beginning.add_pairs_below.Goals as goal

pub loop-lower-init : goal.loop-lower-init
loop-lower-init c = rows-none c.args.refutation.now c.args.self.now.variables.width
    (λ lower. apart_of c.args.self.now.variables.width c.args.self.now.row.now lower c.args.higher)

pub add_pairs_of-requires-clause-begun : goal.add_pairs_of-requires-clause-begun
add_pairs_of-requires-clause-begun c =
    grows-on (begun c.args.self.now.formula.now.cnf) c.args.refutation.now
    c.loop-lower.refutation c.requires.begun c.loop-lower.invariant.grows

pub add_pairs_of-requires-clause-ready : goal.add_pairs_of-requires-clause-ready
add_pairs_of-requires-clause-ready c =
    ready-grows c.args.refutation.now c.loop-lower.refutation c.args.self.now.trees.now
    c.args.self.now.variables.width (length c.args.self.now.row.now)
    c.args.self.now.meetings.now c.args.led.now c.loop-lower.invariant.grows c.requires.ready

pub loop-lower-preserved : goal.loop-lower-preserved
loop-lower-preserved c =
    rows-more c.args.refutation.now c.loop-lower.refutation c.add_pairs_of.new.refutation
    c.loop-lower.lower c.args.self.now.variables.width
    (λ lower. apart_of c.args.self.now.variables.width c.args.self.now.row.now lower c.args.higher)
    c.loop-lower.invariant c.in-Ok.ensures

pub returns : goal.returns
returns c =
    let all : c.loop-lower.lower ≡ c.args.higher =
    omega (arith, c.loop-lower-test.false, c.loop-lower.auto) in
    subst (λ (n : ℕ). AddsRows c.args.refutation.now c.loop-lower.refutation n
    c.args.self.now.variables.width (λ lower.
    apart_of c.args.self.now.variables.width c.args.self.now.row.now lower c.args.higher))
    all c.loop-lower.invariant
