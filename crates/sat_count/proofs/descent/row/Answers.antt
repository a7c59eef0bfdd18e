use Rattle.std.proofs.Common.{◌+◌, ◌∙◌, ◌∷◌, ◌++◌, List, [], ap, refl, sym}
use Rattle.std.proofs.lemmas.List.FromFn.{map-range_with_len_more}
use Rattle.sat_clause.specs.declared.literal.Lit.{Lit}
use Rattle.sat_count.specs.Names.{yes}
use Rattle.sat_count.specs.Places.{some_clause}
use Rattle.sat_count.proofs.descent.row.Goals as goal

pub loop-at-preserved : goal.loop-at-preserved
loop-at-preserved c =
    let more = map-range_with_len_more yes c.args.first c.loop-at.at
    (c.args.first + c.loop-at.at) refl in
    c.in_ok-push.ensures.items
    ∙ ap (λ (ls : List Lit). ls ++ c.plain.result ∷ []) c.loop-at.invariant
    ∙ ap (λ (l : Lit). some_clause c.args.first c.loop-at.at ++ l ∷ []) c.plain.ensures
    ∙ sym more
