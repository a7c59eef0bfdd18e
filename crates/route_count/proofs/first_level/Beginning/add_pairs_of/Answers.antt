use Rattle.std.proofs.Common.{◌≡◌, ℕ, arith, length, subst}
use Rattle.sat_count.specs.Refuting.{begun}
use Rattle.sat_count.specs.Rows.{AddsRow}
use Rattle.sat_count.proofs.GrowLemmas.{grows-on, row-more, row-none}
use Rattle.route_count.specs.Firsts.{apart_of}
use Rattle.route_count.proofs.FirstLemmas.{ready-grows}
use Rattle.route_count.proofs.first_level.Beginning.add_pairs_of.Goals as goal

pub loop-track-init : goal.loop-track-init
loop-track-init c = row-none c.args.refutation.now
    (apart_of c.args.self.now.variables.width c.args.self.now.row.now c.args.lower c.args.higher)

pub add_pair-requires-clause-begun : goal.add_pair-requires-clause-begun
add_pair-requires-clause-begun c =
    grows-on (begun c.args.self.now.formula.now.cnf) c.args.refutation.now
    c.loop-track.refutation c.requires.begun c.loop-track.invariant.grows

pub add_pair-requires-clause-ready : goal.add_pair-requires-clause-ready
add_pair-requires-clause-ready c =
    ready-grows c.args.refutation.now c.loop-track.refutation c.args.self.now.trees.now
    c.args.self.now.variables.width (length c.args.self.now.row.now)
    c.args.self.now.meetings.now c.args.led.now c.loop-track.invariant.grows c.requires.ready

pub loop-track-preserved : goal.loop-track-preserved
loop-track-preserved c =
    row-more c.args.refutation.now c.loop-track.refutation c.add_pair.new.refutation
    c.loop-track.track
    (apart_of c.args.self.now.variables.width c.args.self.now.row.now c.args.lower c.args.higher)
    c.loop-track.invariant c.in-Ok.ensures

pub returns : goal.returns
returns c =
    let all : c.loop-track.track ≡ c.args.self.now.variables.width =
    omega (arith, c.loop-track-test.false, c.loop-track.auto) in
    subst (λ (n : ℕ). AddsRow c.args.refutation.now c.loop-track.refutation n
    (apart_of c.args.self.now.variables.width c.args.self.now.row.now c.args.lower c.args.higher))
    all c.loop-track.invariant
