use Rattle.std.proofs.Common.{◌≡◌, ◌+◌, ℕ, arith, subst}
use Rattle.sat_count.specs.Descending.{given_at, kept_at, moved_at}
use Rattle.sat_count.specs.Refuting.{Defines}
use Rattle.sat_count.specs.Rows.{DefinesRow}
use Rattle.sat_count.proofs.GrowLemmas.{defined-more, defined-none}
use Rattle.sat_count.proofs.descent.add_meanings_of.Goals as goal

pub loop-track-init : goal.loop-track-init
loop-track-init c = defined-none c.args.refutation.now (kept_at c.args.above.now c.args.place)
    (moved_at c.args.above.now c.args.tracks c.args.place)
    (given_at c.args.above.now c.args.tracks c.args.place)

pub define-requires-clause-kept : goal.define-requires-clause-kept
define-requires-clause-kept c =
    let low = c.requires.level.low c.args.place (omega (arith, c.requires)) in
    omega (arith, low, c.name-kept.ensures.value, c.loop-track.invariant.grows.variables)

pub define-requires-clause-moved : goal.define-requires-clause-moved
define-requires-clause-moved c =
    let low = c.requires.level.low c.args.place (omega (arith, c.requires)) in
    omega (arith, low, c.name-moved.ensures.value, c.loop-track.invariant.grows.variables)

pub define-requires-clause-given : goal.define-requires-clause-given
define-requires-clause-given c =
    let low = c.requires.level.low (c.args.tracks + 1) (omega (arith, c.requires)) in
    omega (arith, low, c.name-given.ensures.value, c.loop-track.invariant.grows.variables)

pub loop-track-preserved : goal.loop-track-preserved
loop-track-preserved c =
    let k : ℕ = c.loop-track.track in
    let old = c.loop-track.refutation in
    let new = c.define.new.self in
    defined-more c.args.refutation.now old new k (kept_at c.args.above.now c.args.place)
    (moved_at c.args.above.now c.args.tracks c.args.place)
    (given_at c.args.above.now c.args.tracks c.args.place) c.loop-track.invariant
    (subst (λ (n : ℕ). Defines old new n (moved_at c.args.above.now c.args.tracks c.args.place k)
    (given_at c.args.above.now c.args.tracks c.args.place k)) c.name-kept.ensures.value
    (subst (λ (n : ℕ). Defines old new c.name-kept.result n
    (given_at c.args.above.now c.args.tracks c.args.place k)) c.name-moved.ensures.value
    (subst (λ (n : ℕ). Defines old new c.name-kept.result c.name-moved.result n)
    c.name-given.ensures.value c.in-Ok.ensures)))

pub returns : goal.returns
returns c =
    let all : c.loop-track.track ≡ c.args.tracks =
    omega (arith, c.loop-track-test.false, c.loop-track.auto) in
    subst (λ (n : ℕ). DefinesRow c.args.refutation.now c.loop-track.refutation n
    (kept_at c.args.above.now c.args.place) (moved_at c.args.above.now c.args.tracks c.args.place)
    (given_at c.args.above.now c.args.tracks c.args.place)) all c.loop-track.invariant
