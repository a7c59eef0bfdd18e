use Rattle.std.proofs.Common.{◌≡◌, ◌+◌, ◌∙◌, ◌∷◌, ◌++◌, ℕ, List, None, [], suc, add-one, ap, subst, sym, All}
use Rattle.sat_clause.specs.Literal.{IsWithin}
use Rattle.sat_clause.specs.Step.{Added, Step}
use Rattle.sat_rat.specs.FullRup.{full_rup}
use Rattle.sat_count.specs.Refuting.{Adds, IsRefutation, RefutationState, live_of}
use Rattle.sat_count.proofs.RefutingLemmas.{add-adds, add-refutes}
use Rattle.sat_count.proofs.refutation.Refutation.add.Goals as goal

module _ (c : goal.After-add) where
  abbrev was : RefutationState
  was = record {
    cnf = c.self.inside.formula.now.cnf;
    steps = c.self.inside.log.steps;
    last_id = c.self.inside.last_id;
    last_variable = c.self.inside.last_variable;
  }

  steps-are : c.add.new.self.steps
      ≡ was.steps ++ Added (suc was.last_id) c.args.clause.now c.args.hints.now ∷ []
  steps-are =
      c.add.ensures.steps
      ∙ ap (λ (steps : List Step). steps
      ++ Added (was.last_id + 1) c.args.clause.now c.args.hints.now ∷ []) c.reserve.ensures.kept
      ∙ ap (λ (n : ℕ). was.steps ++ Added n c.args.clause.now c.args.hints.now ∷ [])
      (add-one was.last_id)

  abbrev behind : List Step → ℕ → RefutationState
  behind steps last = record {
    cnf = was.cnf;
    steps = steps;
    last_id = last;
    last_variable = was.last_variable;
  }

  good : IsRefutation (behind c.add.new.self.steps (was.last_id + 1))
  good = subst (λ (n : ℕ). IsRefutation (behind c.add.new.self.steps n))
      (sym (add-one was.last_id))
      (subst (λ (steps : List Step). IsRefutation (behind steps (suc was.last_id)))
      (sym steps-are)
      (add-refutes was c.self.invariant c.args.clause.now c.args.hints.now c.requires.some
      (subst (λ (r : RefutationState). All (IsWithin r.last_variable) c.args.clause.now)
      (sym c.self.view_is) c.requires.within)
      (subst (λ (r : RefutationState).
      full_rup (live_of r) c.args.clause.now c.args.hints.now ≡ None)
      (sym c.self.view_is) c.requires.follows)))

  adds : Adds c.args.self.now (behind c.add.new.self.steps (was.last_id + 1)) c.args.clause.now
  adds = subst (λ (r : RefutationState).
      Adds r (behind c.add.new.self.steps (was.last_id + 1)) c.args.clause.now) c.self.view_is
      (subst (λ (n : ℕ). Adds was (behind c.add.new.self.steps n) c.args.clause.now)
      (sym (add-one was.last_id))
      (subst (λ (steps : List Step). Adds was (behind steps (suc was.last_id)) c.args.clause.now)
      (sym steps-are) (add-adds was c.self.invariant c.args.clause.now c.args.hints.now)))

pub invariant_of-self-2 : goal.invariant_of-self-2
invariant_of-self-2 c = good c

pub returns-clause-adds : goal.returns-clause-adds
returns-clause-adds c = adds c
