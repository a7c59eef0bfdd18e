-- What holds of a method that does not suit a problem.
use Rattle.std.proofs.Common.{ℕ, sym, subst}
use Rattle.run_clauses.specs.Suited.{IsUnsuited}
use Rattle.run_outcome.specs.Subject.{RoutingProblem, Method}
use Rattle.run_outcome.specs.declared.outcome.Outcome.{Outcome}
use Rattle.run_outcome.specs.declared.outcome.Outcome.TheVariants.{NotSymmetric}
use Rattle.run_outcome.specs.declared.outcome.Obstacle.{Obstacle}

-- what holds of such outcomes holds of a method that does not suit the problem
pub unsuited-holds : (Q : Outcome → Type 0)
    → ((width : ℕ) (why : Obstacle) → Q (NotSymmetric width why))
    → (method : Method) (first last : ℕ) (p : RoutingProblem) (o : Outcome)
    → IsUnsuited method first last p o → Q o
unsuited-holds Q each method first last p o h = subst Q (sym h.3) (each h.0 h.1)
