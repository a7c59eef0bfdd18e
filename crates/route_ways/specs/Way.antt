-- What each way holds and needs, and the logs by which it refutes a formula and by which it leaves
-- it open.
use Rattle.std.specs.Prelude.{◌≡◌, ◌≤◌, ℕ, List, Bool, true, false}
use Rattle.desk_io.specs.Files.{Bytes}
use Rattle.fpga_types.specs.Problem.{RoutingProblem}
use Rattle.problem_facts.specs.Facts.{AreFactsOf}
use Rattle.route_count.specs.Begun.{IsBegunBy}
use Rattle.route_count.specs.Crowded.{IsCrowded}
use Rattle.route_core.specs.Fair.{IsFair}
use Rattle.route_encode.specs.Encoding.{cnf_of}
use Rattle.sat_clause.specs.Formula.{Cnf}
use Rattle.sat_clause.specs.Step.{Step}
use Rattle.route_ways.specs.Counting.{IsRefutedIf}
use Rattle.route_ways.specs.Plain.{CanSearch, IsLeftOpen, IsRefuted, copies_of}
use Rattle.route_ways.specs.Trimming.{IsCutDown}
use Rattle.route_ways.specs.declared.plain.Plain.{Plain}
use Rattle.route_ways.specs.declared.way.Way.{Way}
use Rattle.route_ways.specs.declared.way.Way.TheVariants.{Counted, Cut, Searched}

-- a way, with no more of what is known of the problem than the crowd that it counts: a search, one
-- behind counting, or one whose refutations are cut down. A guess refutes nothing and leaves nothing
-- open, so that a search behind it is a search
pub data Course : Type 0 where
  Searches : Plain → Course
  Counts : Plain → (crowd : List ℕ) → Course
  Trims : Plain → Course

-- so seen
abbrev pub course_of : Way → Course
course_of (Searched guessing) = Searches guessing.rest
course_of (Counted counting) = Counts counting.rest.rest counting.facts.now.crowd
course_of (Cut trimming) = Trims trimming.rest

-- the search in it
abbrev pub search_in : Course → Plain
search_in (Searches plain) = plain
search_in (Counts plain crowd) = plain
search_in (Trims plain) = plain

-- how many copies of the clauses it holds
abbrev pub copies_by : Course → ℕ
copies_by way = copies_of (search_in way).solver

-- whether it counts
abbrev pub is_counting : Course → Bool
is_counting (Searches plain) = false
is_counting (Counts plain crowd) = true
is_counting (Trims plain) = false

-- how many clauses it may learn
abbrev pub budget_of : Course → ℕ
budget_of way = (search_in way).budget

-- whether its caller may stop it
abbrev pub is_limited : Course → Bool
is_limited way = (search_in way).limited

-- it may be left open after so many learned clauses: as many as its budget allows, or fewer where
-- its caller may stop it
pub record MayEndAfter (way : Course) (learned : ℕ) : Type 0 where
  pub within : learned ≤ budget_of way
  pub unlimited : is_limited way ≡ false → learned ≡ budget_of way

-- counting needs the facts of the problem, and clauses that begin with those of one track in each
-- cell; trimming needs clauses that are fair, so that it blames no net for what others forbid
abbrev pub serves_by : Way → RoutingProblem → ℕ → Cnf → Type 0
serves_by (Searched guessing) p width formula = CanSearch guessing.rest
serves_by (Counted counting) p width formula =
    AreFactsOf p counting.facts.now × IsBegunBy formula (cnf_of width p)
    × CanSearch counting.rest.rest
serves_by (Cut trimming) p width formula = IsFair width p formula × CanSearch trimming.rest

-- the log refutes the formula so, and this is said before the report
abbrev pub refutes_by : Course → RoutingProblem → ℕ → Cnf → List Step → Bytes → Type 0
refutes_by (Searches plain) p width formula log lead = IsRefuted plain formula log lead
refutes_by (Counts plain crowd) p width formula log lead =
    IsRefutedIf (IsCrowded width p crowd) (IsRefuted plain formula log lead) formula log lead
refutes_by (Trims plain) p width formula log lead = IsCutDown p width formula log lead

-- the log leaves it open so; behind counting, numbers alone do not forbid the width
abbrev pub opens_by : Course → RoutingProblem → ℕ → Cnf → List Step → Type 0
opens_by (Searches plain) p width formula log = IsLeftOpen plain formula log
opens_by (Counts plain crowd) p width formula log =
    (¬ IsCrowded width p crowd) × IsLeftOpen plain formula log
opens_by (Trims plain) p width formula log = IsLeftOpen plain formula log
