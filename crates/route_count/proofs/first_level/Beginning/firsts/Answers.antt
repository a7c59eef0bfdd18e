use Rattle.std.proofs.Common.{◌≡◌, ◌*◌, ◌∙◌, ◌∷◌, ◌++◌, ℕ, List, [], ap, arith, get_or, length, map, sym, take}
use Rattle.std.proofs.Math.Seq.{take-length}
use Rattle.route_count.proofs.FirstRowLemmas.{firsts-step}
use Rattle.route_count.proofs.first_level.Beginning.firsts.Goals as goal

pub loop-place-preserved : goal.loop-place-preserved
loop-place-preserved c =
    let row : List ℕ = c.args.self.now.row.now in
    let width : ℕ = c.args.self.now.variables.width in
    let n : ℕ = c.loop-place.place in
    c.in_ok-push.ensures.items
    ∙ ap (λ (xs : List ℕ). xs ++ (get_or row n 0 * width) ∷ []) c.loop-place.invariant
    ∙ sym (firsts-step row width n c.loop-place-test.true)

pub returns : goal.returns
returns c =
    let row : List ℕ = c.args.self.now.row.now in
    let width : ℕ = c.args.self.now.variables.width in
    let all : c.loop-place.place ≡ length row =
    omega (arith, c.loop-place-test.false, c.loop-place.auto) in
    c.loop-place.invariant
    ∙ ap (λ (n : ℕ). map (λ s. s * width) (take n row)) all
    ∙ ap (map (λ s. s * width)) (take-length row)
