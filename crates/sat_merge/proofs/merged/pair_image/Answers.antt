use Rattle.std.proofs.Common.{◌∷◌, [], arith}
use Rattle.std.proofs.lemmas.Bool.{both_ways}
use Rattle.std.proofs.lemmas.List.Elements.{All-head}
use Rattle.sat_clause.specs.Literal.{IsWithin}
use Rattle.sat_merge.proofs.MergedLaws.{within_both}
use Rattle.sat_merge.proofs.merged.pair_image.Goals as goal

-- a literal of the clause, and its negation
pub returns-then-is_said-clause-within : goal.returns-then-is_said-clause-within
returns-then-is_said-clause-within c = λ vars many within.
    let first = All-head (IsWithin vars) c.args.first (c.args.second ∷ []) within in
    within_both vars c.args.first c.negation.result first (
      omega (arith, c.negation.ensures.variable, first.0),
      omega (arith, c.negation.ensures.variable, first.1),
    )

pub returns-then-is_said-clause-kept : goal.returns-then-is_said-clause-kept
returns-then-is_said-clause-kept c = λ kept.
    absurd (both_ways _ c.if-are_both.false (c.are_both.ensures kept))

pub returns-clause-within : goal.returns-clause-within
returns-clause-within c = λ vars many within. c.in-Some.ensures vars many

pub returns-clause-kept : goal.returns-clause-kept
returns-clause-kept c = λ kept.
    absurd (both_ways _ c.if-are_both.false (c.are_both.ensures kept))
