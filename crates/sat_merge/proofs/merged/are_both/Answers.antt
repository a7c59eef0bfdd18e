use Rattle.std.proofs.Common.{◌≡◌, ◌∷◌, [], ◌∙◌, true}
use Rattle.std.proofs.lemmas.List.Elements.{All-head}
use Rattle.sat_clause.specs.declared.literal.Lit.{Lit}
use Rattle.sat_merge.specs.Representatives.{keeps}
use Rattle.sat_merge.proofs.merged.are_both.Goals as goal

pub returns-then-not-is_representative : goal.returns-then-not-is_representative
returns-then-not-is_representative c = λ kept.
    (rw c.variable.ensures at c.if-not-is_representative.ensures.value)
    ∙ All-head (λ (l : Lit). keeps c.args.representatives.now l ≡ true) c.args.first
    (c.args.second ∷ []) kept
