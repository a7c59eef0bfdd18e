use Rattle.std.proofs.Common.{◌≡◌, ◌∷◌, ap, ◌∙◌, w64, arith}
use Rattle.std.specs.List.{position_or_len}
use Rattle.std.proofs.lemmas.Int.{to_z-of_z, to_z_pos}
use Rattle.fpga_text.specs.Bytes.{is_blank}
use Rattle.fpga_text.proofs.FrontLemmas.{minus_behind, signed_number_of-minus, signed_number_of-plain, small_fits}
use Rattle.fpga_text.proofs.front.front_number.Goals as goal
use Rattle.fpga_text.proofs.front.front_number.Goals.{Then-first-eq45}

-- the text begins with a minus sign
minus : (c : Then-first-eq45) → c.args.text.now ≡ 45 ∷ c.in-Some.behind.now
minus c = c.in-Some.ensures.cases.0 ∙ ap (λ b. b ∷ c.in-Some.behind.now) c.if-first-eq45.true

pub returns-then-first-eq45-clause-value : goal.returns-then-first-eq45-clause-value
returns-then-first-eq45-clause-value c =
    rw (
      to_z-of_z w64 c.negated.result
          (small_fits c.negated.result c.negated.ensures.small),
      c.negated.ensures.value,
    )
    (signed_number_of-minus c.args.text.now c.in-Some.behind.now c.in-Some-front_digits.front.size
    (minus (goal.at.returns-then-first-eq45-clause-value c).Then-first-eq45)
    c.in-Some-front_digits.ensures.size c.in-Some-front_digits.ensures.small)

pub returns-then-first-eq45-clause-behind : goal.returns-then-first-eq45-clause-behind
returns-then-first-eq45-clause-behind c =
    c.in-Some-front_digits.ensures.behind
    ∙ minus_behind c.args.text.now c.in-Some.behind.now
    (minus (goal.at.returns-then-first-eq45-clause-behind c).Then-first-eq45)

pub returns-clause-value : goal.returns-clause-value
returns-clause-value c =
    rw (to_z_pos w64 c.in-Some-front_digits-2.front.size
    (omega (arith, c.in-Some-front_digits-2.ensures.small)))
    (signed_number_of-plain c.args.text.now c.in-Some.behind.now c.in-Some.first.now
    (position_or_len is_blank c.args.text.now) c.in-Some-front_digits-2.front.size
    c.in-Some.ensures.cases.0 c.if-first-eq45.false c.in-Some-front_digits-2.ensures.size
    c.in-Some-front_digits-2.ensures.small)
