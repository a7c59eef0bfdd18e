use Rattle.std.proofs.Common.{◌≡◌, ◌-◌, ◌∙◌, ℕ, Some, ap, arith, suc, subst, sym}
use Rattle.std.proofs.lemmas.Slice.Eq.{slice_eq-Decides}
use Rattle.list_laws.proofs.Places.{some_is}
use Rattle.sat_clause.specs.Literal.{Clause}
use Rattle.route_count.specs.Said.{IsInput}
use Rattle.route_count.proofs.ClauseLemmas.{input-place, input-there, lit-decides}
use Rattle.route_count.proofs.clauses.is_clause.Goals as goal

pub returns : goal.returns
returns c =
    let next : suc (c.args.id - 1) ≡ c.args.id = omega (arith, c.if-id-eq0.false) in
    let same = slice_eq-Decides lit-decides c.clause.result.now c.args.clause.now c.eq.result
    c.eq.ensures in (
      λ equal. (
        omega (arith, c.if-id-eq0.false),
        omega (arith, c.if-id-len.false, c.len.ensures),
        subst (λ (n : ℕ). IsInput c.args.formula.now.cnf n c.args.clause.now) next
            (input-there c.args.formula.now.cnf (c.args.id - 1) c.args.clause.now
            (c.clause.ensures.value
            ∙ ap (λ (found : Clause). Some found) (same.0 equal))),
      ),
      λ parts. same.1 (some_is (sym c.clause.ensures.value
          ∙ input-place c.args.formula.now.cnf (c.args.id - 1) c.args.clause.now
          (subst (λ (n : ℕ). IsInput c.args.formula.now.cnf n c.args.clause.now) (sym next)
          parts.2))),
    )
