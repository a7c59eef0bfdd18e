use Rattle.std.proofs.Common.{◌++◌, ◌∷◌, [], ◌∙◌, ℕ, List, ap, sym}
use Rattle.std.proofs.lemmas.List.{append_assoc}
use Rattle.route_encode.specs.Encoding.{below}
use Rattle.problem_facts.proofs.CrowdLaws.{below-more}
use Rattle.problem_facts.proofs.crowding.slots_from.Goals as goal

pub loop-s-preserved : goal.loop-s-preserved
loop-s-preserved c =
    let front : List ℕ = c.args.front.now in
    c.in_ok-push.ensures.items
    ∙ ap (λ (xs : List ℕ). xs ++ c.loop-s.s ∷ []) c.loop-s.invariant
    ∙ append_assoc front (below c.loop-s.s) (c.loop-s.s ∷ [])
    ∙ ap (λ (xs : List ℕ). front ++ xs) (sym (below-more c.loop-s.s))
