-- The command `encode`: the clauses of a problem, and their file.
use Rattle.std.specs.Prelude.{false, ◌≡◌, ℕ, ◌++◌, List, codes, Result, Ok, Err}
use Rattle.run_outcome.specs.Subject.{ShelfState, RoutingProblem, EncodeAsked, Bytes, HasFew, Cnf}
use Rattle.run_outcome.specs.declared.outcome.Outcome.{Outcome}
use Rattle.run_outcome.specs.declared.slot.Slot.TheVariants.{File}
use Rattle.run_clauses.specs.Suited.{LeavesSuited, LeavesPrepared}
use Rattle.desk_io.specs.WholeFile.{FailsToWrite, after_writing}
use Rattle.fpga_route.specs.ReadBack.{IsPrintable}
use Rattle.route_sweep.specs.Found.{IsUnbuilt}
use Rattle.route_sweep.specs.declared.found.FileSlot.TheVariants.{Clauses}
use Rattle.route_sweep.specs.declared.found.Stop.{Stop}
use Rattle.route_sweep.specs.declared.found.Stop.TheVariants.{Fault}
use Rattle.sat_text.specs.CnfText.{ReadsCnf}
use Rattle.run_clauses.specs.Method.{IsCrowdFor, clauses_by}
use Rattle.run_outcome.specs.Report.{written_outcome}
use Rattle.run_clauses.specs.VariableNames.{named_text}
use Rattle.run_outcome.specs.Written.{JobFile, job_file}

-- the name of the file that clauses are written to
abbrev pub clauses_name : EncodeAsked → Bytes
clauses_name job = job.prefix ++ codes ".cnf"

-- the text of clauses of the problem: first the names of their variables, if these are asked for
abbrev pub clauses_text : EncodeAsked → RoutingProblem → Cnf → Bytes
clauses_text job p formula = named_text job.names job.width p.route formula

-- the file of the clauses of the problem, by this crowd
abbrev pub clauses_file : EncodeAsked → (crowd : List ℕ) → RoutingProblem → JobFile
clauses_file job crowd p = job_file (File (Clauses job.width)) (clauses_name job)
    (clauses_text job p (clauses_by job.method crowd job.width p))

-- the clauses of the problem were written, and read back if its route can be printed; or they were
-- not written whole; or nothing was written, since there are too many or memory is short
abbrev pub WritesClauses : {Written : Type 0} → EncodeAsked → RoutingProblem → Cnf
    → (before now : ShelfState) → Result Written Stop → Type 0
WritesClauses job p formula before now (Ok written) =
    HasFew formula × (IsPrintable p.route → ReadsCnf (clauses_text job p formula) formula)
    × (now ≡ after_writing before (clauses_name job) (clauses_text job p formula))
WritesClauses job p formula before now (Err (Fault slot)) =
    (slot ≡ Clauses job.width) × HasFew formula
    × FailsToWrite before (clauses_name job) (clauses_text job p formula) now
WritesClauses job p formula before now (Err stop) = IsUnbuilt 1 formula stop × (now ≡ before)

-- the writing of the clauses of the problem, by a crowd of it if they go by one, at the width of
-- the job
pub record Encodes
    (job : EncodeAsked) (p : RoutingProblem) (before now : ShelfState) (outcome : Outcome)
    : Type 0 where
  pub crowd : List ℕ
  pub known : IsCrowdFor job.method false crowd p
  pub came : Result (Unit {0}) Stop
  pub writes : WritesClauses job p (clauses_by job.method crowd job.width p) before now came
  pub is : outcome ≡ written_outcome came

-- what `encode` leaves of its problem
abbrev pub EncodeLeaves : EncodeAsked → RoutingProblem → (before now : ShelfState) → Outcome
    → Type 0
EncodeLeaves job = LeavesSuited job.method job.width job.width
    (LeavesPrepared job.method false (Encodes job))
