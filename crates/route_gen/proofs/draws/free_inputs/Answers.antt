use Rattle.std.proofs.Common.{List, [], ◌∷◌, ◌++◌, ℕ, ap, ◌∙◌}
use Rattle.route_gen.proofs.RangeLemmas.{row_more}
use Rattle.route_gen.proofs.draws.free_inputs.Goals as goal

pub loop-block-preserved : goal.loop-block-preserved
loop-block-preserved c =
    row_more {T = List ℕ} (λ _. []) c.loop-block._block [] c.loop-block.inputs.items
    c.push.new.self.items c.loop-block.invariant
    (c.in_ok-push.ensures.items
    ∙ ap (λ (nets : List ℕ). c.loop-block.inputs.items ++ nets ∷ []) c.free.ensures)
