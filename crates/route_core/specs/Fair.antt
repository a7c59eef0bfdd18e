-- Formulas that blame nets justly: what their clauses about some nets forbid is forbidden by these
-- nets by themselves.
use Rattle.std.specs.Prelude.{◌≡◌, ℕ, ◌<◌, ◌*◌, Bool, List, length, All}
use Rattle.fpga_types.specs.Problem.{RoutingProblem}
use Rattle.fpga_types.specs.Slots.{slots}
use Rattle.sat_clause.specs.Formula.{Cnf, IsTrueClause}
use Rattle.sat_clause.specs.Literal.{Clause}
use Rattle.sat_clause.specs.Step.{Step}
use Rattle.route_core.specs.Blamed.{blamed, slot_of}
use Rattle.route_core.specs.Core.{AreUnroutable, IsLegalRoutingOf, IsOf}
use Rattle.route_core.specs.Trimmed.{IsTrimmed}

-- of the slots of the problem the clause speaks of those of these nets alone
abbrev pub IsAbout : ℕ → RoutingProblem → (nets : List ℕ) → Clause → Type 0
IsAbout width p nets clause =
    All (λ l. slot_of width l < length (slots p.route)
    → IsOf nets (slots p.route) (slot_of width l)) clause

-- a value for each variable, so that each clause about these nets alone is true
pub record SatisfiesAbout (width : ℕ) (p : RoutingProblem) (nets : List ℕ) (values : List Bool)
    (formula : Cnf) : Type 0 where
  pub one_each : length values ≡ formula.vars
  pub each_clause : All (λ clause. IsAbout width p nets clause → IsTrueClause values clause)
      formula.clauses

-- there is a variable for each track of each slot; and whichever nets have a legal routing by
-- themselves, some values make the clauses about these alone true
pub record IsFair (width : ℕ) (p : RoutingProblem) (formula : Cnf) : Type 0 where
  pub vars : formula.vars ≡ length (slots p.route) * width
  pub parts : (nets tracks : List ℕ) → IsLegalRoutingOf width p nets tracks
      → (values : List Bool) × SatisfiesAbout width p nets values formula

-- the nets that a trimmed refutation of the formula blames have no legal routing by themselves
abbrev pub BlameIsJust : ℕ → RoutingProblem → Cnf → Type 0
BlameIsJust width p formula = (log small : List Step) → IsTrimmed formula log small
    → AreUnroutable width p (blamed width p formula small)
