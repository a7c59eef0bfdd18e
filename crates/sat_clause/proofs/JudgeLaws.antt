-- The judge of a log, whatever its rule of steps.
use Rattle.std.proofs.Common.{◌≡◌, ℕ, suc, Bool, true, false, List, [], ◌∷◌, ◌++◌, Option, None, Some, refl, sym, ap, ◌∙◌, append_assoc}
use Rattle.std.proofs.lemmas.Bool.{both_ways}
use Rattle.sat_clause.specs.declared.cause.Cause.{Cause}
use Rattle.sat_clause.specs.Formula.{Cnf}
use Rattle.sat_clause.specs.Judge.{Accepted, Judgement, Refused, Rule, after, is_empty_clause, judge_by, judge_step, judge_steps}
use Rattle.sat_clause.specs.Live.{Live}
use Rattle.sat_clause.specs.Step.{HasLiterals, HaveLiterals, Step}

pub refused_not_accepted : {n : ℕ} {cause : Cause} → Refused n cause ≡ Accepted → ⊥
refused_not_accepted e = let no : ◌≡◌ {A = Bool} true false = cc in both_ways _ refl (sym no)

-- ---- what an accepted log is, step by step

-- the first step is good, and either it adds the empty clause or the rest is accepted
pub record IsAccepted (rule : Rule) (n : ℕ) (live : Live) (step : Step) (steps : List Step)
    : Type 0 where
  pub good : rule live step ≡ None
  pub rest : is_empty_clause step ≡ false
      → judge_steps rule (suc n) (after live step) steps ≡ Accepted

module _ (rule : Rule) (n : ℕ) (live : Live) (step : Step) (steps : List Step) where
  abbrev later : Judgement
  later = judge_steps rule (suc n) (after live step) steps

  pub accepted_parts : judge_steps rule n live (step ∷ steps) ≡ Accepted
      → IsAccepted rule n live step steps
  accepted_parts accepted = by (rule live step) refl accepted where
    ends : (b : Bool) → judge_step n None b later ≡ Accepted → b ≡ false → later ≡ Accepted
    ends true e on = absurd (both_ways true on refl)
    ends false e on = e

    by : (o : Option Cause) → rule live step ≡ o
        → judge_step n o (is_empty_clause step) later ≡ Accepted
        → IsAccepted rule n live step steps
    by (Some cause) is e = absurd (refused_not_accepted e)
    by None good e = record { good = good; rest = ends (is_empty_clause step) e }

  pub accepted_by_parts : IsAccepted rule n live step steps
      → judge_steps rule n live (step ∷ steps) ≡ Accepted
  accepted_by_parts is =
      ap (λ f. judge_step n f (is_empty_clause step) later) is.good
      ∙ by (is_empty_clause step) is.rest
    where
      by : (b : Bool) → (b ≡ false → later ≡ Accepted) → judge_step n None b later ≡ Accepted
      by true rest = refl
      by false rest = rest refl

-- where good steps keep to something by which none of them adds the empty clause, none is accepted
module _ (rule : Rule) (Keeps : Live → List Step → Type 0)
    (keeps : (live : Live) (step : Step) (steps : List Step) → Keeps live (step ∷ steps)
    → rule live step ≡ None → Keeps (after live step) steps)
    (none_empty : (live : Live) (step : Step) (steps : List Step) → Keeps live (step ∷ steps)
    → rule live step ≡ None → is_empty_clause step ≡ true → ⊥) where
  pub never_accepted : (n : ℕ) (live : Live) (steps : List Step) → Keeps live steps
      → judge_steps rule n live steps ≡ Accepted → ⊥
  never_accepted n live [] kept accepted = refused_not_accepted accepted
  never_accepted n live (step ∷ steps) kept accepted =
      let parts = accepted_parts rule n live step steps accepted in
      elim (is_empty_clause step) as (λ b. is_empty_clause step ≡ b → ⊥) [
        | true ↦ λ last. none_empty live step steps kept parts.good last
        | false ↦ λ on. never_accepted (suc n) (after live step) steps
            (keeps live step steps kept parts.good) (parts.rest on)
      ] refl

-- a rule by which more steps are good accepts more logs
pub accepted_by_more : (rule more : Rule)
    → ((live : Live) (step : Step) → rule live step ≡ None → more live step ≡ None)
    → (n : ℕ) (live : Live) (steps : List Step) → judge_steps rule n live steps ≡ Accepted
    → judge_steps more n live steps ≡ Accepted
accepted_by_more rule more good n live [] accepted = accepted
accepted_by_more rule more good n live (step ∷ steps) accepted =
    let parts = accepted_parts rule n live step steps accepted in
    accepted_by_parts more n live step steps (record {
      good = good live step parts.good;
      rest = λ on. accepted_by_more rule more good (suc n) (after live step) steps (parts.rest on);
    })

-- ---- one step more

-- where what comes behind the steps is judged from these clauses on
pub judged_more : (rule : Rule) (formula : Cnf) (steps : List Step) (taken : ℕ) (live : Live)
    → ((more : List Step)
    → judge_by rule formula (steps ++ more) ≡ judge_steps rule (suc taken) live more)
    → (step : Step) (f : Option Cause) (last : Bool) → rule live step ≡ f
    → is_empty_clause step ≡ last → (more : List Step)
    → judge_by rule formula ((steps ++ step ∷ []) ++ more)
    ≡ judge_step (suc taken) f last (judge_steps rule (suc (suc taken)) (after live step) more)
judged_more rule formula steps taken live ahead step f last is ends more =
    ap (judge_by rule formula) (append_assoc steps (step ∷ []) more)
    ∙ ahead (step ∷ more)
    ∙ ap (λ g. judge_step (suc taken) g (is_empty_clause step)
    (judge_steps rule (suc (suc taken)) (after live step) more)) is
    ∙ ap (λ b. judge_step (suc taken) f b
    (judge_steps rule (suc (suc taken)) (after live step) more)) ends

pub literals_more : (steps : List Step) (step : Step) → HaveLiterals steps → HasLiterals step →
    HaveLiterals (steps ++ step ∷ [])
literals_more [] step each here = (here, tt)
literals_more (first ∷ steps) step each here =
    (each.0, literals_more steps step each.1 here)
