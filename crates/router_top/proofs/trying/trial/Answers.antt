use Rattle.std.proofs.Common.{◌∙◌, refl, ap, subst, inl, inr}
use Rattle.router_words.specs.Job.{recipe_said, trial_said}
use Rattle.router_top.specs.Search.{sweep_of}
use Rattle.router_top.specs.Work.{Sweeps}
use Rattle.run_outcome.specs.Subject.{Bytes, FailsToSay, ShelfState, after_say}
use Rattle.router_top.proofs.StoppedLaws.{unmade-not-early}
use Rattle.router_top.proofs.trying.trial.Goals as goal

pub returns-in-Err-clause-leaves : goal.returns-in-Err-clause-leaves
returns-in-Err-clause-leaves g c = inl (c.in-Err.ensures.none, refl)

pub returns-in_default-clause-leaves : goal.returns-in_default-clause-leaves
returns-in_default-clause-leaves g c = inl (inl (inr refl), refl)

pub returns-in_default-say-clause-leaves : goal.returns-in_default-say-clause-leaves
returns-in_default-say-clause-leaves g c =
    let line = c.as_bytes.ensures.value ∙ c.deref.ensures.0 ∙ c.trial_line.ensures.line in
    inr (
      c.in-Ok.problem,
      record { made = c.in-Ok.ensures.made; few = c.trial_line.ensures.few },
      inr (
        subst (λ (said : Bytes). FailsToSay (g.S.Shelf.state c.args.shelf.now) said
            (g.S.Shelf.state c.say.new.self)) line c.in_default-say.ensures.err,
        refl,
      ),
    )

pub returns-clause-leaves : goal.returns-clause-leaves
returns-clause-leaves g c =
    let job = trial_said c.args.job.now in
    let line = c.as_bytes.ensures.value ∙ c.deref.ensures.0 ∙ c.trial_line.ensures.line in
    inr (
      c.in-Ok.problem,
      record { made = c.in-Ok.ensures.made; few = c.trial_line.ensures.few },
      inl (subst (λ (shelf : ShelfState). Sweeps (sweep_of job) c.in-Ok.problem shelf
          (g.S.Shelf.state c.search_widths.new.shelf) c.search_widths.result)
          (c.in-Ok-say.ensures.ok ∙ ap (after_say (g.S.Shelf.state c.args.shelf.now)) line)
          c.search_widths.ensures.leaves),
    )

pub returns-in-Err-clause-stopped : goal.returns-in-Err-clause-stopped
returns-in-Err-clause-stopped g c early =
    absurd (unmade-not-early c.args.job.now.search.conflicts (recipe_said c.args.job.now.recipe)
    c.in-Err.outcome c.in-Err.ensures.none early)
