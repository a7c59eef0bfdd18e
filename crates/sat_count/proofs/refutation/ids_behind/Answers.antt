use Rattle.std.proofs.Common.{rules, ◌≡◌, ◌+◌, ◌-◌, ◌∙◌, ◌∷◌, ◌++◌, ℕ, ℤ, List, [], ap, arith, pos, suc, sym}
use Rattle.std.proofs.lemmas.Int.{to_z-of_z}
use Rattle.std.proofs.lemmas.List.FromFn.{map-range_with_len_more}
use mir.Syntax.{w64}
use mir.Val.{SFits}
use Rattle.sat_count.specs.Refuting.{ids_behind}
use Rattle.sat_count.proofs.refutation.ids_behind.Goals as goal

pub loop-id-preserved : goal.loop-id-preserved
loop-id-preserved c =
    let n : ℕ = c.loop-id.id - c.args.behind in
    let more = map-range_with_len_more (λ k. pos (suc k)) c.args.behind n c.loop-id.id
    (omega (arith, c.loop-id.auto)) in
    let count : c.loop-id.id + 1 - c.args.behind ≡ n + 1 = omega (arith, c.loop-id.auto) in
    let fits : SFits w64 c.hint_behind.result = search rules in
    let pushed = simp to_z-of_z at c.in_ok-push.ensures.items in
    pushed
    ∙ ap (λ (ids : List ℤ). ids ++ c.hint_behind.result ∷ []) c.loop-id.invariant
    ∙ ap (λ (z : ℤ). ids_behind c.args.behind n ++ z ∷ []) c.hint_behind.ensures
    ∙ sym more
    ∙ ap (ids_behind c.args.behind) (sym count)
