use Rattle.std.proofs.Common.{inl, inr, refl}
use Rattle.run_checks.proofs.VerifiedLaws.{cut-lines, no-lines, said-lines}
use Rattle.run_checks.proofs.verifying.tell_causes.Goals as goal

pub returns-in_default : goal.returns-in_default
returns-in_default g c =
    inr (no-lines c.args.nets.now _ _ c.args.causes.now c.in_default.ensures.value refl)

pub returns-in-Ok : goal.returns-in-Ok
returns-in-Ok g c = inr (said-lines c.args.nets.now _ _ c.args.causes.now c.in-Some.first.now
    c.in-Some.ensures.value c.in-Ok.ensures)

pub returns-in-Err : goal.returns-in-Err
returns-in-Err g c = elim c.in-Err.ensures [
  | inl short ↦ inl short
  | inr fails ↦ inr (cut-lines c.args.nets.now _ _ c.args.causes.now c.in-Some.first.now
      c.in-Err.stop c.in-Some.ensures.value fails.0 fails.1)
]
