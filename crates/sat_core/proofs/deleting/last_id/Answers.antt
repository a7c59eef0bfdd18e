use Rattle.std.proofs.Common.{◌≡◌, ◌∙◌, ℕ, inl, inr, Some, reverse, slice_get, ap, sym, subst, arith}
use Rattle.std.proofs.lemmas.Bool.{cases_eq}
use Rattle.list_laws.proofs.Places.{some_is}
use Rattle.sat_clause.specs.Literal.{Clause}
use Rattle.sat_core.proofs.deleting.last_id.Goals as goal

pub loop-i-preserved : goal.loop-i-preserved
loop-i-preserved c = record {
  least = let low = c.loop-i.invariant.least in omega (arith, low, c.max-last.ensures);
  last = λ k id x lt at. elim (cases_eq k c.loop-i.i) [
    | inl same ↦
        let list = reverse c.args.clauses.now.clauses in
        let here : slice_get list c.loop-i.i ≡ Some (id, x) =
        subst (λ (j : ℕ). slice_get list j ≡ Some (id, x)) same at in
        let one : c.get.result.id ≡ id =
        ap (λ (entry : ℕ × Clause). entry.0) (some_is (sym c.get.ensures.at ∙ here)) in
        omega (arith, one, c.max-last.ensures)
    | inr other ↦
        let low = c.loop-i.invariant.last k id x (omega (arith, lt, other)) at in
        omega (arith, low, c.max-last.ensures)
  ];
}
