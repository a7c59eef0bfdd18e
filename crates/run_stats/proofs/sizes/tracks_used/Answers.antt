use Rattle.std.proofs.Common.{◌≡◌, ℕ, arith, subst}
use Rattle.run_stats.specs.Sizes.{used_before}
use Rattle.run_stats.proofs.sizes.tracks_used.Goals as goal

pub returns : goal.returns
returns c =
    let all : c.loop-track.track ≡ 64 =
    omega (arith, c.loop-track-test.false, c.loop-track.auto.track-end) in
    subst (λ (n : ℕ). c.loop-track.count ≡ used_before c.args.nets.now n) all
    c.loop-track.invariant.many
