use Rattle.std.proofs.Common.{◌≡◌, ◌+◌, ◌∙◌, ◌∷◌, ◌++◌, [], ap, arith, suc}
use Rattle.problem_facts.specs.Trees.{roots_of}
use Rattle.problem_facts.proofs.trees.roots_of.Goals as goal

pub loop-s-preserved : goal.loop-s-preserved
loop-s-preserved c =
    let next : suc c.loop-s.s ≡ c.loop-s.s + 1 = omega arith in
    c.in_ok-push.ensures.items
    ∙ (λ j. c.loop-s.invariant j ++ c.root_by-root.ensures j ∷ [])
    ∙ ap (roots_of c.args.steps.now) next
