use Rattle.std.proofs.Common.{◌≡◌, ◌+◌, ℕ, arith, subst}
use Rattle.sat_count.specs.Refuting.{begun}
use Rattle.sat_count.specs.Rows.{AddsRow}
use Rattle.sat_count.proofs.GrowLemmas.{grows-on, row-more, row-none}
use Rattle.route_count.specs.Firsts.{some_of}
use Rattle.route_count.proofs.first_level.Beginning.add_some_tracks.Goals as goal

pub loop-place-init : goal.loop-place-init
loop-place-init c = row-none c.args.refutation.now
    (some_of c.args.self.now.variables.width c.args.self.now.row.now)

pub add_some_track-requires-clause-begun : goal.add_some_track-requires-clause-begun
add_some_track-requires-clause-begun c =
    grows-on (begun c.args.self.now.formula.now.cnf) c.args.refutation.now
    c.loop-place.refutation c.requires.begun c.loop-place.invariant.grows

pub loop-place-preserved : goal.loop-place-preserved
loop-place-preserved c =
    row-more c.args.refutation.now c.loop-place.refutation c.add_some_track.new.refutation
    c.loop-place.place (some_of c.args.self.now.variables.width c.args.self.now.row.now)
    c.loop-place.invariant c.in-Ok.ensures

pub returns : goal.returns
returns c =
    let all : c.loop-place.place ≡ c.args.self.now.variables.width + 1 =
    omega (arith, c.loop-place-test.false, c.loop-place.auto) in
    subst (λ (n : ℕ). AddsRow c.args.refutation.now c.loop-place.refutation n
    (some_of c.args.self.now.variables.width c.args.self.now.row.now)) all
    c.loop-place.invariant
