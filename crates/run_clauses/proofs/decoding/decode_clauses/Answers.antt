use Rattle.std.proofs.Common.{inl, inr, refl}
use Rattle.run_clauses.proofs.decoding.decode_clauses.Goals as goal

pub returns-in-Err-clause-leaves : goal.returns-in-Err-clause-leaves
returns-in-Err-clause-leaves g c =
    inl (c.in-Err.stop, c.in-Err.ensures.stop, c.stop_outcome.ensures, refl)

pub returns-clause-leaves : goal.returns-clause-leaves
returns-clause-leaves g c = inr (c.in-Ok.ensures.held.few, c.decode_model.ensures.leaves)
