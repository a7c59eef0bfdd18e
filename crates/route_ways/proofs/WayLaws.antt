-- What holds of each way.
use Rattle.std.proofs.Common.{◌≡◌, ◌⊎◌, ◌≤◌, true, false, ℕ, List, inl, inr, arith}
use Rattle.desk_io.specs.Files.{Bytes}
use Rattle.fpga_types.specs.Problem.{RoutingProblem}
use Rattle.sat_clause.specs.Formula.{Cnf}
use Rattle.sat_clause.specs.Learned.{added_count}
use Rattle.sat_clause.specs.Step.{Step}
use Rattle.sat_rat.specs.FullJudge.{FullAccepts}
use Rattle.sat_rat.proofs.FullSound.{accepts_more}
use Rattle.route_ways.specs.Plain.{IsLeftOpen, IsSpent, IsStopped}
use Rattle.route_ways.specs.Way.{Course, Counts, MayEndAfter, Searches, Trims, opens_by, refutes_by}
use Rattle.route_ways.specs.declared.plain.Plain.{Plain}

-- a log that refutes the formula is accepted as full LRAT has it
pub way-accepts : (way : Course) (p : RoutingProblem) (width : ℕ) (formula : Cnf) (log : List Step)
    (lead : Bytes) → refutes_by way p width formula log lead → FullAccepts formula log
way-accepts (Searches plain) p width formula log lead h =
    accepts_more formula log h.refutes.accepts
way-accepts (Counts plain crowd) p width formula log lead (inl h) = h.accepted
way-accepts (Counts plain crowd) p width formula log lead (inr h) =
    accepts_more formula log h.1.refutes.accepts
way-accepts (Trims plain) p width formula log lead h =
    accepts_more formula log h.trimmed.accepted

-- one that leaves it open has as many learned clauses as the budget allows, or at most as many
-- where the search may be stopped
plainly-ends : (plain : Plain) (formula : Cnf) (log : List Step) → IsLeftOpen plain formula log
    → (added_count log ≤ plain.budget)
    × (plain.limited ≡ false → added_count log ≡ plain.budget)
plainly-ends plain formula log h = go h.ends
  where
    go : IsSpent plain formula log ⊎ IsStopped plain log → (added_count log ≤ plain.budget)
        × (plain.limited ≡ false → added_count log ≡ plain.budget)
    go (inl spent) = (omega (arith, spent.spends.all), λ unlimited. spent.spends.all)
    go (inr stopped) = (
      stopped.leaves.within,
      λ unlimited. absurd (let limited : plain.limited ≡ true = stopped.limited in cc),
    )

pub way-ends : (way : Course) (p : RoutingProblem) (width : ℕ) (formula : Cnf) (log : List Step)
    → opens_by way p width formula log → MayEndAfter way (added_count log)
way-ends (Searches plain) p width formula log h =
    let ends = plainly-ends plain formula log h in
    record { within = ends.0; unlimited = ends.1 }
way-ends (Counts plain crowd) p width formula log h =
    let ends = plainly-ends plain formula log h.1 in
    record { within = ends.0; unlimited = ends.1 }
way-ends (Trims plain) p width formula log h =
    let ends = plainly-ends plain formula log h in
    record { within = ends.0; unlimited = ends.1 }
