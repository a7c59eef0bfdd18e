use Rattle.std.proofs.lemmas.Result.{IfOk-weaker}
use Rattle.sat_merge.proofs.hints.HintWriter.write.Goals as goal

-- the hints that were judged are those that the writer has
pub returns-clause-written : goal.returns-clause-written
returns-clause-written c =
    let is_lent = c.deref.ensures.value in
    IfOk-weaker c.are_needed.result _ _ (λ are says is clauses finds.
    rw is_lent at (says is clauses finds)) c.are_needed.ensures.ok
