-- The nets to blame: a search at one width, which says behind its files what there is to say of a
-- refutation.
use Rattle.std.specs.Prelude.{◌≡◌, ◌⊎◌, ◌≤◌, ℕ, false, List, Result, Ok}
use Rattle.fpga_types.specs.Given.{IsGiven}
use Rattle.fpga_types.specs.declared.limits.TheConstants.{WIDTH_LIMIT}
use Rattle.route_sweep.specs.declared.found.Found.{Found}
use Rattle.route_sweep.specs.declared.found.Found.TheVariants.{Refuted}
use Rattle.route_sweep.specs.declared.found.Stop.{Stop}
use Rattle.run_clauses.specs.Method.{IsCrowdFor}
use Rattle.run_outcome.specs.Report.{found_outcome}
use Rattle.router_top.specs.Search.{core_search}
use Rattle.router_top.specs.Work.{Finds}
use Rattle.run_outcome.specs.Subject.{Bytes, FailsToSay, ShelfState, after_say, RoutingProblem, CoreAsked}
use Rattle.run_outcome.specs.declared.outcome.Outcome.{Outcome}
use Rattle.run_outcome.specs.declared.outcome.Outcome.TheVariants.{Unroutable, WriteFault}
use Rattle.run_outcome.specs.declared.slot.Slot.TheVariants.{Said}
use Rattle.run_clauses.specs.Suited.{LeavesSuited, LeavesPrepared}

-- the lead was said, and the width is unroutable; or a front part of it was, and the run has failed
-- to write
abbrev pub SaysLead : (lead : Bytes) → (width : ℕ) → (before now : ShelfState) → Outcome → Type 0
SaysLead lead width before now outcome =
    ((now ≡ after_say before lead) × (outcome ≡ Unroutable width))
    ⊎ (FailsToSay before lead now × (outcome ≡ WriteFault Said))

-- what is said behind the files: where the width was refuted, the lead of the refutation, which
-- names the nets that the written log blames; else nothing, and the outcome is what was found
abbrev pub SaysBlamed : (width : ℕ) → (wrote now : ShelfState) → Result Found Stop → Outcome
    → Type 0
SaysBlamed width wrote now (Ok (Refuted lead)) outcome =
    SaysLead lead.items width wrote now outcome
SaysBlamed width wrote now came outcome = (now ≡ wrote) × (outcome ≡ found_outcome width came)

-- what `core` leaves of its problem, which was given, by a crowd of it if it goes by one
pub record LeavesCore
    (job : CoreAsked) (p : RoutingProblem) (before now : ShelfState) (outcome : Outcome)
    : Type 0 where
  pub given : IsGiven p
  pub narrow : job.width ≤ WIDTH_LIMIT
  pub crowd : List ℕ
  pub known : IsCrowdFor job.method false crowd p
  pub came : Result Found Stop
  pub wrote : ShelfState
  pub finds : Finds (core_search job crowd) p job.width before wrote came
  pub says : SaysBlamed job.width wrote now came outcome

-- what `core` leaves of its problem
abbrev pub CoreLeaves : CoreAsked → RoutingProblem → (before now : ShelfState) → Outcome → Type 0
CoreLeaves job = LeavesSuited job.method job.width job.width
    (LeavesPrepared job.method false (LeavesCore job))
