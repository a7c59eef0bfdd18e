use Rattle.std.proofs.Common.{inl, inr, refl}
use Rattle.run_outcome.specs.declared.text_file.TextFile.TheVariants.{Model}
use Rattle.run_outcome.proofs.StopLaws.{desk-fault}
use Rattle.run_clauses.proofs.decoding.decode_model.Goals as goal

pub returns-in-Err-clause-leaves : goal.returns-in-Err-clause-leaves
returns-in-Err-clause-leaves g c = inl (
  record {
    fault = c.in-Err.fault;
    because = rw (← c.requires, ← c.vars.ensures.value) c.in-Err.ensures.answers;
    tells = c.unread_outcome.ensures;
  },
  refl,
)

pub returns-in-Err-clause-quiet : goal.returns-in-Err-clause-quiet
returns-in-Err-clause-quiet g c told =
    c.in-Err.ensures.quiet (λ fails. told (desk-fault Model c.in-Err.fault c.unread_outcome.result
    c.unread_outcome.ensures fails))

pub judge_model-requires-clause-model : goal.judge_model-requires-clause-model
judge_model-requires-clause-model g c =
    (c.in-Ok.ensures.answers.literals, rw (← c.vars.ensures.value) c.in-Ok.ensures.answers.gives)

pub returns-clause-leaves : goal.returns-clause-leaves
returns-clause-leaves g c = inr (
  c.in-Ok.ensures.answers.literals,
  rw (← c.requires, ← c.vars.ensures.value) c.in-Ok.ensures.answers.says,
  c.judge_model.ensures c.in-Ok.ensures.answers.literals
      (rw (← c.vars.ensures.value) c.in-Ok.ensures.answers.gives),
)
