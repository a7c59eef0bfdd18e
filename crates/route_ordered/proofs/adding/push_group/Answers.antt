use Rattle.std.proofs.Common.{◌++◌, ◌∷◌, [], ◌∙◌, ℕ, get_or, ap}
use Rattle.std.proofs.lemmas.List.{get_or_default}
use Rattle.sat_clause.specs.declared.literal.Lit.{Lit}
use Rattle.route_ordered.proofs.AddingLemmas.{push-more}
use Rattle.route_ordered.proofs.adding.push_group.Goals as goal

pub loop-track-preserved : goal.loop-track-preserved
loop-track-preserved c =
    let i : ℕ = c.loop-track.track-index in
    let t : ℕ = get_or c.args.group.now i 0 in
    c.in_ok-push.ensures.items
    ∙ ap (λ (l : Lit). c.loop-track.clause.items ++ l ∷ []) c.has.ensures.value
    ∙ push-more c.args.variables.width c.args.slot c.args.group.now i t
    c.args.clause.now.items c.loop-track.clause.items c.loop-track-test.true
    (get_or_default c.args.group.now i 0 t c.loop-track-test.true) c.loop-track.invariant
