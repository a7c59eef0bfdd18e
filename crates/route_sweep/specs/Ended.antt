-- What a search through the clauses of a problem comes to, by whatever way.
use Rattle.std.specs.Prelude.{◌≡◌, ℕ, ◌<◌, List}
use Rattle.desk_io.specs.Files.{Bytes}
use Rattle.sat_clause.specs.Formula.{Cnf, IsUnsat, Satisfies}
use Rattle.sat_clause.specs.Learned.{added_count}
use Rattle.sat_clause.specs.Step.{Step}
use Rattle.route_sweep.specs.declared.searcher.Ended.{Ended}
use Rattle.route_sweep.specs.declared.searcher.Ended.TheVariants.{Model, Refuted, Open}

-- the values satisfy the formula; or the log refutes it so, with this lead, and no values do; or it
-- leaves the formula open so, after so many learned clauses
abbrev pub HasEnded : (Refutes : List Step → Bytes → Type 0) → (LeavesOpen : List Step → Type 0)
    → Cnf → Ended → Type 0
HasEnded Refutes LeavesOpen formula (Model values) = Satisfies values.items formula
HasEnded Refutes LeavesOpen formula (Refuted log lead) =
    Refutes log.steps lead.items × IsUnsat formula
HasEnded Refutes LeavesOpen formula (Open log learned) =
    LeavesOpen log.steps × (learned ≡ added_count log.steps)

-- it was left open after fewer learned clauses than the budget allows
abbrev pub EndsShort : (budget : ℕ) → Ended → Type 0
EndsShort budget (Open log learned) = learned < budget
EndsShort budget ended = ⊥
