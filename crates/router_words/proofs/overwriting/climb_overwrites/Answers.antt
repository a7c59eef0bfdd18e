use Rattle.std.proofs.Common.{◌≡◌, ◌∙◌, ◌+◌, ◌-◌, ◌<◌, ℕ, Bool, false, suc, arith, ap, map, refl, sym}
use Rattle.std.specs.List.{list_any, range_with_len}
use Rattle.router_words.specs.Overwriting.{width_overwrites}
use Rattle.router_words.proofs.overwriting.climb_overwrites.Goals as goal

-- a number that fails the test may go from the front of a range
next : (f : ℕ → Bool) (k last : ℕ) → k < last + 1 → f k ≡ false
    → list_any f (range_with_len (k + 1) (last + 1 - (k + 1)))
    ≡ list_any f (range_with_len k (last + 1 - k))
next f k last within fails =
    let more : last + 1 - k ≡ suc (last + 1 - (k + 1)) = omega (arith, within) in
    sym (ap (λ (n : ℕ). list_any f (range_with_len k n)) more ∙ rw fails refl)

pub loop-width-preserved : goal.loop-width-preserved
loop-width-preserved c =
    let width = c.loop-width.width in
    let test = width_overwrites (map (λ name. name.now) c.args.names.now) c.args.prefix.now in
    let none : test width ≡ false = sym c.in_ok-width_overwrites.ensures ∙ c.if-branch-2.false in
    record {
      from = omega (arith, c.loop-width.invariant.from);
      to = omega (arith, c.loop-width-test.true);
      none = next test width c.args.last (omega (arith, c.loop-width-test.true)) none
          ∙ c.loop-width.invariant.none;
    }
