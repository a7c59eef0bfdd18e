-- Searches that were stopped before their budgets were spent: of which outcomes this is not so, and
-- what of a search it comes from.
use Rattle.std.proofs.Common.{ℕ, Ok, Err, Result, inl, inr}
use Rattle.route_sweep.specs.Found.{FindsShort}
use Rattle.route_sweep.specs.declared.found.Found.{Found}
use Rattle.route_sweep.specs.declared.found.Found.TheVariants.{Routed as IsRouted, Refuted, Spent}
use Rattle.route_sweep.specs.declared.found.Stop.{Stop}
use Rattle.router_top.specs.Core.{SaysBlamed}
use Rattle.run_outcome.proofs.StoppedLaws.{found-early}
use Rattle.run_made.specs.Generated.{PosesNone}
use Rattle.run_outcome.specs.Stopped.{EndsEarly}
use Rattle.run_clauses.specs.Suited.{IsUnsuited}
use Rattle.run_outcome.specs.Subject.{Method, RecipeAsked, RoutingProblem, ShelfState}
use Rattle.run_outcome.specs.declared.outcome.Outcome.{Outcome}

-- ---- outcomes of which it is not so

-- a method that does not suit the problem
pub unsuited-not-early : (budget : ℕ) (method : Method) (first last : ℕ) (p : RoutingProblem)
    (o : Outcome) → IsUnsuited method first last p o → EndsEarly budget o → ⊥
unsuited-not-early budget method first last p o h early = let told = h.3 in let is = early.is in cc

-- a problem that was not made, or is too large
pub unmade-not-early : (budget : ℕ) (recipe : RecipeAsked) (o : Outcome) → PosesNone recipe o
    → EndsEarly budget o → ⊥
unmade-not-early budget recipe o (inl (inl h)) early = let told = h.1 in let is = early.is in cc
unmade-not-early budget recipe o (inl (inr short)) early = let is = early.is in cc
unmade-not-early budget recipe o (inr h) early = let told = h.3 in let is = early.is in cc

-- ---- what it comes from

-- so was the width of nets to blame
pub blamed-early : (budget width : ℕ) (wrote now : ShelfState) (came : Result Found Stop)
    (o : Outcome) → SaysBlamed width wrote now came o → EndsEarly budget o
    → FindsShort budget came
blamed-early budget width wrote now (Ok IsRouted) o h =
    found-early budget width (Ok IsRouted) o h.1
blamed-early budget width wrote now (Ok (Refuted lead)) o (inl h) =
    λ early. absurd (let told = h.1 in let is = early.is in cc)
blamed-early budget width wrote now (Ok (Refuted lead)) o (inr h) =
    λ early. absurd (let told = h.1 in let is = early.is in cc)
blamed-early budget width wrote now (Ok (Spent learned)) o h =
    found-early budget width (Ok (Spent learned)) o h.1
blamed-early budget width wrote now (Err stop) o h = found-early budget width (Err stop) o h.1
