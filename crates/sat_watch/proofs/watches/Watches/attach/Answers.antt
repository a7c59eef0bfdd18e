use Rattle.std.proofs.Common.{◌≡◌, ◌+◌, ℕ, Option, None, Some, refl, sym, ◌∙◌, subst, arith}
use Rattle.std.proofs.lemmas.Result.{IfOk-weaker}
use Rattle.sat_clause.specs.Literal.{negation}
use Rattle.sat_watch.specs.Chains.{lit_at}
use Rattle.sat_watch.specs.Choice.{FreeSays, IsAttachedAs}
use Rattle.sat_watch.specs.Watched.{is_false}
use Rattle.sat_watch.specs.Watches.{Attaches, WatchState}
use Rattle.sat_watch.proofs.AttachedLemmas.{HasFree, attaches, few_lits, is_open_here, is_true_here, only_one, open_alone, some_free, true_not_open, two_not_open}
use Rattle.sat_watch.proofs.watches.Watches.attach.Goals as goal
use Rattle.sat_watch.proofs.watches.Watches.attach.Goals.{In-Some, In_default-free_position, After-is_false}

-- the first literal that is not false, and that there is no other
first : (c : In-Some) → HasFree c.args.self.now c.args.lits.now c.in-Some.i
first c = record {
  simple = c.requires.simple;
  at = subst (λ (p : WatchState × Option ℕ). FreeSays p.0.trail c.args.lits.now 0 p.1)
      (λ x. (c.self.view_is x, c.in-Some.is x)) c.free_position.ensures;
}

no_other : (c : In_default-free_position) →
    FreeSays c.args.self.now.trail c.args.lits.now (c.in-Some.i + 1) None
no_other c =
    subst (λ (p : WatchState × Option ℕ). FreeSays p.0.trail c.args.lits.now (c.in-Some.i + 1) p.1)
    (λ x. (c.self.view_is x, c.in_default-free_position.is x)) c.free_position-2.ensures

-- whether it is true is tested
tested : (c : After-is_false) →
    is_false c.args.self.now.trail (negation (lit_at c.args.lits.now c.in-Some.i))
    ≡ c.is_false.result
tested c =
    (λ x. is_false (sym c.self.view_is x).trail (sym c.negation.ensures.value x))
    ∙ sym c.is_false.ensures

pub free_position-requires-clause-few : goal.free_position-requires-clause-few
free_position-requires-clause-few c =
    few_lits c.self.invariant c.self.view_is c.requires.simple

pub free_position-requires-2-clause-few : goal.free_position-requires-2-clause-few
free_position-requires-2-clause-few c =
    few_lits c.self.invariant c.self.view_is c.requires.simple

pub attach_free-requires-clause-few : goal.attach_free-requires-clause-few
attach_free-requires-clause-few c = few_lits c.self.invariant c.self.view_is c.requires.simple

pub unreachable-requires : goal.unreachable-requires
unreachable-requires c =
    some_free c.args.self.now c.args.lits.now c.requires.may
    (subst (λ (p : WatchState × Option ℕ). FreeSays p.0.trail c.args.lits.now 0 p.1)
    (λ x. (c.self.view_is x, c.in_default.is x)) c.free_position.ensures)

pub overflow_add-i : goal.overflow_add-i
overflow_add-i c =
    let few = few_lits c.self.invariant c.self.view_is c.requires.simple in
    let below = (first (goal.at.overflow_add-i c).In-Some).at.1 in record { fits = omega arith }

pub returns-in-Some-free_position-clause-ok : goal.returns-in-Some-free_position-clause-ok
returns-in-Some-free_position-clause-ok c =
    let old = c.args.self.now in let new = c.attach_free.new.self in let lits = c.args.lits.now in
    let j = c.in-Some-free_position.j in
    let next : FreeSays old.trail lits (c.in-Some.i + 1) (Some j) =
    subst (λ (p : WatchState × Option ℕ). FreeSays p.0.trail lits (c.in-Some.i + 1) p.1)
    (λ x. (c.self.view_is x, c.in-Some-free_position.is x)) c.free_position-2.ensures in
    let first = first (goal.at.returns-in-Some-free_position-clause-ok c).In-Some in
    let low = next.0 in
    IfOk-weaker c.attach_free.result (λ r. IsAttachedAs old new lits c.args.id None r)
    (λ r. Attaches old new lits c.args.id r) (λ r as_is. attaches as_is
    (λ is. absurd (two_not_open first j next.1 (λ same. omega arith) next.2 is)) (λ is. refl))
    c.attach_free.ensures.ok

pub attach_true-requires : goal.attach_true-requires
attach_true-requires c =
    let at = goal.at.attach_true-requires c in let first = first at.In-Some in
    let after = no_other at.In_default-free_position in
    record {
      simple = c.requires.simple;
      few = few_lits c.self.invariant c.self.view_is c.requires.simple;
      quiet = c.requires.quiet;
      i = first.at.1;
      only = only_one first after c.requires.may;
      is_true = is_true_here first after c.requires.may
          (tested at.After-is_false ∙ c.if-is_false.true);
    }

pub attach_pending-requires : goal.attach_pending-requires
attach_pending-requires c =
    let at = goal.at.attach_pending-requires c in let first = first at.In-Some in
    let after = no_other at.In_default-free_position in
    let is = is_open_here first after c.requires.may
    (tested at.After-is_false ∙ c.if-is_false.false) in
    record {
      simple = c.requires.simple;
      few = few_lits c.self.invariant c.self.view_is c.requires.simple;
      quiet = c.requires.quiet;
      i = first.at.1;
      only = only_one first after c.requires.may;
      is_open = is.0;
      level = is.1;
    }

pub returns-then-is_false-clause-ok : goal.returns-then-is_false-clause-ok
returns-then-is_false-clause-ok c =
    let at = goal.at.returns-then-is_false-clause-ok c in let now = tested at.After-is_false in
    let old = c.args.self.now in let new = c.attach_true.new.self in let lits = c.args.lits.now in
    IfOk-weaker c.attach_true.result (λ r. IsAttachedAs old new lits c.args.id None r)
    (λ r. Attaches old new lits c.args.id r) (λ r as_is. attaches as_is
    (λ is. absurd (true_not_open (first at.In-Some) (now ∙ c.if-is_false.true) is)) (λ is. refl))
    c.attach_true.ensures.ok

pub returns-clause-ok : goal.returns-clause-ok
returns-clause-ok c =
    let at = goal.at.returns-clause-ok c in let now = tested at.After-is_false in
    let old = c.args.self.now in let new = c.attach_pending.new.self in
    let lits = c.args.lits.now in
    IfOk-weaker c.attach_pending.result (λ r. IsAttachedAs old new lits c.args.id (Some r) r)
    (λ r. Attaches old new lits c.args.id r) (λ r as_is. attaches as_is (λ is. refl)
    (λ is. absurd (open_alone (first at.In-Some) (no_other at.In_default-free_position)
    (now ∙ c.if-is_false.false) is)))
    c.attach_pending.ensures.ok
