use Rattle.std.proofs.Common.{◌≡◌, ◌-◌, ◌∙◌, ◌∷◌, ◌++◌, ℤ, List, [], ap, subst, sym}
use Rattle.sat_clause.specs.Step.{Erased, Step}
use Rattle.sat_count.specs.Refuting.{AreLive, Erases, IsRefutation, RefutationState, ids_behind}
use Rattle.sat_count.proofs.RefutingLemmas.{erase-erases, erase-refutes, erases-none}
use Rattle.sat_count.proofs.refutation.Refutation.erase.Goals as goal

module _ (c : goal.After-drop-ids-2) where
  abbrev was : RefutationState
  was = record {
    cnf = c.self.inside.formula.now.cnf;
    steps = c.self.inside.log.steps;
    last_id = c.self.inside.last_id;
    last_variable = c.self.inside.last_variable;
  }

  abbrev gone : List ℤ
  gone = ids_behind c.args.behind (c.args.last - c.args.behind)

  steps-are : c.erase.new.self.steps ≡ was.steps ++ Erased was.last_id gone ∷ []
  steps-are =
      c.erase.ensures.steps
      ∙ ap (λ (steps : List Step). steps ++ Erased was.last_id c.deref.result.now ∷ [])
      c.reserve.ensures.kept
      ∙ ap (λ (ids : List ℤ). was.steps ++ Erased was.last_id ids ∷ [])
      (c.deref.ensures.value ∙ c.in-Ok.ensures)

  abbrev behind : List Step → RefutationState
  behind steps = record {
    cnf = was.cnf;
    steps = steps;
    last_id = was.last_id;
    last_variable = was.last_variable;
  }

  good : IsRefutation (behind c.erase.new.self.steps)
  good = subst (λ (steps : List Step). IsRefutation (behind steps)) (sym steps-are)
      (erase-refutes was c.self.invariant c.args.behind c.args.last c.requires.order
      (subst (λ (r : RefutationState). AreLive r c.args.behind c.args.last) (sym c.self.view_is)
      c.requires.live))

  erases : Erases c.args.self.now (behind c.erase.new.self.steps) c.args.last
  erases = subst (λ (r : RefutationState). Erases r (behind c.erase.new.self.steps) c.args.last)
      c.self.view_is
      (subst (λ (steps : List Step). Erases was (behind steps) c.args.last) (sym steps-are)
      (erase-erases was c.self.invariant c.args.behind c.args.last c.requires.order))

pub invariant_of-self-2 : goal.invariant_of-self-2
invariant_of-self-2 c = good c

pub returns : goal.returns
returns c = erases c

pub returns-then-behind-last : goal.returns-then-behind-last
returns-then-behind-last c = erases-none c.args.self.now c.args.last
