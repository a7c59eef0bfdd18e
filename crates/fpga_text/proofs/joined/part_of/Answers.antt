use Rattle.std.proofs.Common.{◌≡◌, ◌++◌, ◌∷◌, [], true, false, sym, ap, ◌∙◌}
use Rattle.std.specs.Prelude.{◌==◌}
use Rattle.std.proofs.lemmas.Bool.{ne_eqb}
use Rattle.fpga_text.specs.Joined.{bare, goes_on}
use Rattle.fpga_text.proofs.JoinedLemmas.{bare-at, goes_on-push, said_part-alone, said_part-goes_on, before_hash-at}
use Rattle.fpga_text.proofs.joined.part_of.Goals as goal
use Rattle.fpga_text.proofs.joined.part_of.Goals.{Then-last-ne92, Else-last-ne92}

-- what is left ends with another byte
alone : (c : Then-last-ne92) → goes_on c.args.raw.now ≡ false
alone c = goes_on-push c.args.raw.now c.in-Some.before.now c.in-Some.last.now
    (bare-at c.args.raw.now c.trimmed.result.now c.first_byte.result c.first_byte.ensures.place
    c.trimmed.ensures
    ∙ c.in-Some.ensures.cases.0)
    ∙ ne_eqb c.in-Some.last.now 92 c.if-last-ne92.true

pub returns-then-last-ne92-clause-said : goal.returns-then-last-ne92-clause-said
returns-then-last-ne92-clause-said c =
    before_hash-at c.args.raw.now c.first_byte.result c.first_byte.ensures.place
    ∙ sym (said_part-alone c.args.raw.now
    (alone (goal.at.returns-then-last-ne92-clause-said c).Then-last-ne92))

pub returns-then-last-ne92-clause-goes_on : goal.returns-then-last-ne92-clause-goes_on
returns-then-last-ne92-clause-goes_on c =
    sym (alone (goal.at.returns-then-last-ne92-clause-goes_on c).Then-last-ne92)

-- what is left ends with a backslash
left : (c : Else-last-ne92) → bare c.args.raw.now ≡ c.in-Some.before.now ++ c.in-Some.last.now ∷ []
left c =
    bare-at c.args.raw.now c.trimmed.result.now c.first_byte.result c.first_byte.ensures.place
    c.trimmed.ensures
    ∙ c.in-Some.ensures.cases.0

on : (c : Else-last-ne92) → goes_on c.args.raw.now ≡ true
on c = goes_on-push c.args.raw.now c.in-Some.before.now c.in-Some.last.now (left c)
    ∙ ap (λ b. b == 92) c.if-last-ne92.false

pub returns-clause-said : goal.returns-clause-said
returns-clause-said c =
    let at = (goal.at.returns-clause-said c).Else-last-ne92 in
    sym (said_part-goes_on c.args.raw.now c.in-Some.before.now c.in-Some.last.now (left at) (on at))

pub returns-clause-goes_on : goal.returns-clause-goes_on
returns-clause-goes_on c = sym (on (goal.at.returns-clause-goes_on c).Else-last-ne92)
