use Rattle.std.proofs.Common.{◌++◌, ◌∷◌, [], ◌∙◌, ℕ, List, get_or, ap}
use Rattle.std.specs.Prelude.{map}
use Rattle.std.proofs.lemmas.List.{get_or_default}
use Rattle.sat_clause.specs.declared.literal.Lit.{Lit}
use Rattle.route_encode.specs.Encoding.{has}
use Rattle.route_ordered.proofs.AddingLemmas.{behind-more}
use Rattle.route_ordered.proofs.adding.only_behind.Goals as goal

pub loop-e-init : goal.loop-e-init
loop-e-init c =
    c.in_ok-push.ensures.items
    ∙ ap (λ (ls : List Lit). ls ++ c.lacks.result ∷ []) c.new-clause.ensures.items
    ∙ ap (λ (l : Lit). l ∷ []) c.lacks.ensures.value

pub loop-e-preserved : goal.loop-e-preserved
loop-e-preserved c =
    let i : ℕ = c.loop-e.e-index in
    let e : ℕ = get_or c.args.earlier.now i 0 in
    c.in_ok-push_group.ensures
    ∙ ap (λ (ls : List Lit). ls ++ map (has c.args.variables.width e) c.args.group.now)
    c.loop-e.invariant
    ∙ behind-more c.args.variables.width c.args.earlier.now c.args.group.now c.args.slot
    c.args.track i e c.loop-e-test.true
    (get_or_default c.args.earlier.now i 0 e c.loop-e-test.true)
