-- What the work on a problem leaves on the shelf, by its outcome; last of a trial, which is a sweep
-- that says first how large its generated problem is.
use Rattle.std.specs.Prelude.{◌≡◌, ◌⊎◌, ℕ, ◌++◌, ◌≤◌, List, true, codes, Option, Result, decimal, length}
use Rattle.fpga_types.specs.Given.{IsGiven}
use Rattle.fpga_types.specs.Slots.{pairs, slots, steps}
use Rattle.fpga_types.specs.declared.limits.TheConstants.{WIDTH_LIMIT}
use Rattle.route_sweep.specs.Climb.{ClimbsTo}
use Rattle.route_sweep.specs.Found.{FindsBy}
use Rattle.route_sweep.specs.declared.found.Climbed.{Climbed}
use Rattle.route_sweep.specs.declared.found.Found.{Found}
use Rattle.route_sweep.specs.declared.found.Stop.{Stop}
use Rattle.route_ways.specs.Way.{copies_by, opens_by, refutes_by}
use Rattle.router_words.specs.Job.{MembersAsked}
use Rattle.run_clauses.specs.Method.{IsCrowdFor, IsRoutingBy, clauses_by}
use Rattle.run_outcome.specs.Report.{climbed_outcome, found_outcome}
use Rattle.router_top.specs.Search.{Search, route_search, sweep_of, clauses_at}
use Rattle.router_top.specs.Ways.{way_by}
use Rattle.run_outcome.specs.Subject.{Bytes, ShelfState, FailsToSay, after_say, RoutingProblem, RouteAsked, SearchAsked, SweepAsked, TrialAsked}
use Rattle.run_outcome.specs.declared.outcome.Outcome.{Outcome}
use Rattle.run_outcome.specs.declared.outcome.Outcome.TheVariants.{WriteFault}
use Rattle.run_outcome.specs.declared.slot.Slot.TheVariants.{Said}
use Rattle.run_clauses.specs.Suited.{LeavesSuited, LeavesPrepared}

-- what a search finds at a width of its problem, and what is written of it
abbrev pub Finds : Search → RoutingProblem → (width : ℕ) → (before now : ShelfState)
    → Result Found Stop → Type 0
Finds search p width before now came =
    FindsBy (copies_by search.way)
    (refutes_by search.way p width (clauses_at search width p))
    (opens_by search.way p width (clauses_at search width p)) search.ask width
    (clauses_at search width p) (IsRoutingBy search.method width p) before now came

-- what `route` leaves: a search of the problem, which was given, by a crowd of it if it goes by
-- one, at the width of the job, which is at most 64
pub record LeavesRoute
    (job : RouteAsked) (p : RoutingProblem) (before now : ShelfState) (outcome : Outcome)
    : Type 0 where
  pub given : IsGiven p
  pub narrow : job.search.width ≤ WIDTH_LIMIT
  pub crowd : List ℕ
  pub known : IsCrowdFor job.search.method job.search.count crowd p
  pub came : Result Found Stop
  pub finds : Finds (route_search job crowd) p job.search.width before now came
  pub is : outcome ≡ found_outcome job.search.width came

-- a climb through the widths of the problem, which was given, by one crowd of it if it goes by one,
-- up to the greatest, which is at most 64; at each by one search, or by as many as take turns
pub record Climbs
    (search : SearchAsked) (members : Option MembersAsked) (p : RoutingProblem)
    (before now : ShelfState) (outcome : Outcome)
    : Type 0 where
  pub given : IsGiven p
  pub some : 1 ≤ search.width
  pub narrow : search.width ≤ WIDTH_LIMIT
  pub crowd : List ℕ
  pub known : IsCrowdFor search.method search.count crowd p
  pub came : Result Climbed Stop
  pub climbs : ClimbsTo (copies_by (way_by search members crowd))
      (λ width. refutes_by (way_by search members crowd) p width
      (clauses_by search.method crowd width p))
      (λ width. opens_by (way_by search members crowd) p width
      (clauses_by search.method crowd width p))
      (record { prefix = search.prefix; numbered = true }) search.width
      (λ width. clauses_by search.method crowd width p)
      (λ width. IsRoutingBy search.method width p)
      before now came
  pub is : outcome ≡ climbed_outcome came

-- the climb that a sweep asks for
abbrev pub Sweeps : SweepAsked → RoutingProblem → (before now : ShelfState) → Outcome → Type 0
Sweeps job p before now outcome = Climbs job.search job.members p before now outcome

-- the trial line with its newline: how many slots and steps the problem has, and how many pairs of
-- slots of different nets take one cell
abbrev pub trial_line : RoutingProblem → Bytes
trial_line p =
    codes "trial: slots " ++ decimal (length (slots p.route))
    ++ codes " steps " ++ decimal (length (steps p.route))
    ++ codes " pairs " ++ decimal (length (pairs (slots p.route))) ++ codes "\n"

-- the trial line was said, and behind it the sweep left this; or a front part of it was, and the
-- run has failed to write
abbrev pub Tries : TrialAsked → RoutingProblem → (before now : ShelfState) → Outcome → Type 0
Tries job p before now outcome =
    Sweeps (sweep_of job) p (after_say before (trial_line p)) now outcome
    ⊎ (FailsToSay before (trial_line p) now × (outcome ≡ WriteFault Said))

-- what `route` leaves of its problem
abbrev pub RouteLeaves : RouteAsked → RoutingProblem → (before now : ShelfState) → Outcome → Type 0
RouteLeaves job = LeavesSuited job.search.method job.search.width job.search.width
    (LeavesPrepared job.search.method job.search.count (LeavesRoute job))

-- what `sweep` leaves of its problem; each width up to the greatest counts, also if it is not come
-- to
abbrev pub SweepLeaves : SweepAsked → RoutingProblem → (before now : ShelfState) → Outcome → Type 0
SweepLeaves job = LeavesSuited job.search.method 1 job.search.width
    (LeavesPrepared job.search.method job.search.count (Sweeps job))
