use Rattle.std.proofs.Common.{◌==◌, length, sym, arith}
use Rattle.std.proofs.lemmas.List.Sums.{position_or_len_is}
use Rattle.std.proofs.lemmas.Bool.{false_from_ne_true}
use Rattle.fpga_text.proofs.cut.first_byte.Goals as goal

-- no byte is the one that is looked for
pub returns-in_default-clause-place : goal.returns-in_default-clause-place
returns-in_default-clause-place c =
    sym (position_or_len_is (λ b. b == c.args.byte) c.args.text.now (length c.args.text.now) 0
    (omega arith)
    (λ k h. false_from_ne_true _ (c.in_default.ensures k (omega arith) (omega (arith, h))))
    (λ h. absurd (omega (arith, h))))

-- none before the place is
pub returns-clause-place : goal.returns-clause-place
returns-clause-place c =
    let found = c.in-Some.ensures in
    sym (position_or_len_is (λ b. b == c.args.byte) c.args.text.now c.in-Some.place 0
    (omega (arith, found.0.high))
    (λ k h. false_from_ne_true _ (found.0.before k (omega arith) h)) (λ h. found.1))
