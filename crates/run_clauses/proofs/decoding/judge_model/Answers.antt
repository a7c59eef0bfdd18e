use Rattle.std.proofs.Common.{inl, refl, sym}
use Rattle.run_clauses.proofs.decoding.judge_model.Goals as goal

pub returns-in-Some : goal.returns-in-Some
returns-in-Some g c = λ literals given. inl (
  c.in-Some.clause,
  rw (← c.requires.formula) (sym (c.in-Some.ensures literals given)),
  refl,
  refl,
)

pub decode-requires-clause-model : goal.decode-requires-clause-model
decode-requires-clause-model g c =
    let model = c.requires.model in
    rw (← c.requires.formula) (c.values.ensures model.0 c.args.formula.now.cnf model.1
    (sym (c.in_default.ensures model.0 model.1)))
