use Rattle.std.proofs.Common.{◌≡◌, ◌∙◌, All, Option, ap, subst, sym}
use Rattle.std.specs.Option.{option_or}
use Rattle.sat_clause.specs.Literal.{Clause, IsWithin}
use Rattle.sat_check.specs.DerivedStore.{derived_at}
use Rattle.sat_check.specs.InputStore.{input_at}
use Rattle.sat_check.proofs.FinderLaws.{finds_put, joined_changes, within_changes}
use Rattle.sat_check.proofs.live_clauses.LiveClauses.put.Goals as goal

pub invariant_of-self : goal.invariant_of-self
invariant_of-self c = record {
  few = c.self.invariant.few;
  within = λ id clause is.
      c.self.invariant.within id clause (sym (c.in_default-put.ensures.err id) ∙ is);
  next = c.put.ensures.first ∙ c.self.invariant.next;
}

pub returns-in_default-put-clause-err : goal.returns-in_default-put-clause-err
returns-in_default-put-clause-err c = λ q.
    let p = c.self.inside in
    rw (← c.self.view_is)
    (ap (λ (o : Option Clause). option_or (input_at p.inputs q) o)
    (c.in_default-put.ensures.err q))

pub invariant_of-self-2 : goal.invariant_of-self-2
invariant_of-self-2 c =
    let p = c.self.inside in
    let within = rw (← c.self.view_is) at c.requires in record {
      few = rw c.take_out.ensures.vars c.self.invariant.few;
      within = within_changes p.vars (derived_at p.derived)
          (derived_at c.put.new.self) c.args.id _ c.in-Ok-put.ensures.ok
          (λ clause is. let copied : c.in-Ok.copy.items ≡ clause = cc in
          subst (λ (x : Clause). All (IsWithin p.vars) x) (sym c.in-Ok.ensures ∙ copied) within)
          c.self.invariant.within;
      next = rw c.take_out.ensures.many (c.put.ensures.first ∙ c.self.invariant.next);
    }

pub returns-clause-live : goal.returns-clause-live
returns-clause-live c = λ live finds.
    let p = c.self.inside in
    finds_put _ _ c.args.id live (rw (← c.self.view_is) at finds) c.args.clause.now
    (joined_changes (input_at p.inputs) (input_at c.take_out.new.self) (derived_at p.derived)
    (derived_at c.put.new.self) c.args.id _ c.take_out.ensures.live
    (rw c.in-Ok.ensures at c.in-Ok-put.ensures.ok))
