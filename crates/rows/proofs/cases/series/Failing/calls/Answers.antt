use Rattle.std.proofs.Common.{◌≡◌, ℕ, ◌+◌, ◌-◌, arith}
use Rattle.std.proofs.lemmas.List.FromFn.{map-range_with_len_more}
use Rattle.rows.proofs.cases.series.Failing.calls.Goals as goal

pub loop-call-preserved : goal.loop-call-preserved
loop-call-preserved c =
    let count = c.loop-call.call - c.args.number in
    let next : c.loop-call.call + 1 - c.args.number ≡ count + 1 =
    omega (arith, c.loop-call.auto.call) in
    let is : c.args.number + count ≡ c.loop-call.call = omega (arith, c.loop-call.auto.call) in
    let none : 0 + count ≡ count = omega arith in
    rw (
      next,
      map-range_with_len_more (λ (k : ℕ). c.args.number + k) 0 count count none,
      ← c.loop-call.invariant,
      is,
    ) c.in_ok-push-in-ShelfOn.ensures.items
