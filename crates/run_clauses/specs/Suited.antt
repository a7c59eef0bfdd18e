-- Whether the method of a job suits its problem at each width that the job may come to, the encoder
-- that is made before the work by what is known of the problem, and what the job leaves by both.
use Rattle.std.specs.Prelude.{◌≡◌, ◌⊎◌, ℕ, List, ◌<◌, ◌≤◌, Bool, true, false, Option, Some, None, option_map}
use Rattle.problem_facts.specs.Full.{asymmetry_of, is_symmetric}
use Rattle.problem_facts.specs.Groups.{is_exchangeable, obstacle_of}
use Rattle.route_ordered.specs.Ordered.{ordered_cnf, slots_among}
use Rattle.run_clauses.specs.Method.{clauses_by, goes_by_crowd}
use Rattle.run_outcome.specs.Subject.{ShelfState, RoutingProblem, Cnf, Method, Ordered, Pinned, Strictly, Within}
use Rattle.run_outcome.specs.declared.outcome.Outcome.{Outcome}
use Rattle.run_outcome.specs.declared.outcome.Outcome.TheVariants.{OutOfMemory, NotSymmetric}
use Rattle.run_clauses.specs.declared.chosen.Chosen.{Chosen}
use Rattle.run_outcome.specs.declared.outcome.Obstacle.{Obstacle}
use Rattle.run_outcome.specs.declared.outcome.Obstacle.TheVariants.{Order, Pins}

-- the clauses by a method, where this row of slots, as far as they are the problem's, is the one
-- that is kept in order
abbrev pub clauses_along : Method → (row : List ℕ) → (width : ℕ) → RoutingProblem → Cnf
clauses_along Ordered row width p = ordered_cnf width p (slots_among p row)
clauses_along method row width p = clauses_by method row width p

-- the encoder is that of the method; where tracks are kept in order, its row is this crowd
pub record IsEncoderOf (method : Method) (crowd : List ℕ) (chosen : Chosen) : Type 0 where
  pub is : chosen.method ≡ method
  pub row : method ≡ Ordered → chosen.order.row.items ≡ crowd

-- nothing was written, since memory was short for the crowd that is to be gone by; or this is what
-- the work leaves
abbrev pub LeavesPrepared : Method → (count : Bool)
    → (RoutingProblem → (before now : ShelfState) → Outcome → Type 0)
    → RoutingProblem → (before now : ShelfState) → Outcome → Type 0
LeavesPrepared method count works p before now outcome =
    (((goes_by_crowd method count ≡ true) × (outcome ≡ OutOfMemory)) × (now ≡ before))
    ⊎ works p before now outcome

-- the method suits the problem at a width: where tracks are pinned, all of them are alike there,
-- and where they are kept in order, their groups may change places
abbrev pub is_suited : Method → (width : ℕ) → RoutingProblem → Bool
is_suited Strictly width p = true
is_suited Pinned width p = is_symmetric width p
is_suited (Within reach) width p = true
is_suited Ordered width p = is_exchangeable width p

-- what keeps it from the problem there
abbrev pub obstacle_to : Method → (width : ℕ) → RoutingProblem → Option Obstacle
obstacle_to Strictly width p = None
obstacle_to Pinned width p = option_map Pins (asymmetry_of width p)
obstacle_to (Within reach) width p = None
obstacle_to Ordered width p = option_map Order (obstacle_of width p)

-- this is the least of these widths at which the method does not suit the problem, and this keeps
-- it from it there
pub record IsLeastUnsuited (method : Method)
    (first last : ℕ) (p : RoutingProblem) (width : ℕ) (why : Obstacle) : Type 0 where
  pub from : first ≤ width
  pub to : width ≤ last
  pub lower : (k : ℕ) → first ≤ k → k < width → is_suited method k p ≡ true
  pub unsuited : is_suited method width p ≡ false
  pub because : obstacle_to method width p ≡ Some why

-- the method suits the problem at each of these widths
abbrev pub Suits : Method → (first last : ℕ) → RoutingProblem → Type 0
Suits method first last p =
    (width : ℕ) → first ≤ width → width ≤ last → is_suited method width p ≡ true

-- the method does not suit the problem at each of these widths, and the outcome has the least at
-- which it does not
abbrev pub IsUnsuited : Method → (first last : ℕ) → RoutingProblem → Outcome → Type 0
IsUnsuited method first last p outcome =
    (width : ℕ) × (why : Obstacle) × IsLeastUnsuited method first last p width why
    × (outcome ≡ NotSymmetric width why)

-- the method does not suit the problem at each of these widths, and the outcome says so; or it
-- does, and this is true
abbrev pub IsTrueOfSuited : Method → (first last : ℕ) → RoutingProblem → (says : Type 0) → Outcome
    → Type 0
IsTrueOfSuited method first last p says outcome =
    IsUnsuited method first last p outcome ⊎ (Suits method first last p × says)

-- nothing was written, since the method does not suit the problem at each of these widths; or it
-- does, and this is what the work leaves
abbrev pub LeavesSuited : Method → (first last : ℕ)
    → (RoutingProblem → (before now : ShelfState) → Outcome → Type 0)
    → RoutingProblem → (before now : ShelfState) → Outcome → Type 0
LeavesSuited method first last works p before now outcome =
    (IsUnsuited method first last p outcome × (now ≡ before))
    ⊎ (Suits method first last p × works p before now outcome)
