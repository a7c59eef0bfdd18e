use Rattle.std.proofs.Common.{◌≡◌, ◌∙◌, sym, ap, List, ℕ, drop, arith}
use Rattle.std.specs.Prelude.{nat_eq}
use Rattle.std.specs.List.{starts_with}
use Rattle.std.proofs.lemmas.List.{take_rest}
use Rattle.rows.proofs.PartLemmas.{counted, passed}
use Rattle.rows.proofs.cases.parts.places_of.Goals as goal
use Rattle.rows.proofs.cases.parts.places_of.Goals.{then-starts_with, else-starts_with}

pub loop-at-preserved : goal.loop-at-preserved
loop-at-preserved c =
    let text : List ℕ = c.args.text.now in
    let part : List ℕ = c.args.part.now in
    let few = c.loop-at.invariant.0 in
    let sum = c.loop-at.invariant.1 in
    let found : c.starts_with.result ≡ starts_with nat_eq (drop c.loop-at.at text) part =
    c.starts_with.ensures.value
    ∙ ap (λ (rest : List ℕ). starts_with nat_eq rest part) (take_rest text c.loop-at.at) in
    elim c.if-starts_with.branch [
      | then-starts_with w ↦ (
        omega (arith, w.count-is, few),
        rw w.count-is (counted part text c.loop-at.at c.loop-at.count c.loop-at-test.true
            (sym w.if-starts_with.true ∙ found) sum),
      )
      | else-starts_with w ↦ (
        omega (arith, w.count-is, few),
        rw w.count-is (passed part text c.loop-at.at c.loop-at.count c.loop-at-test.true
            (sym w.if-starts_with.false ∙ found) sum),
      )
    ]
