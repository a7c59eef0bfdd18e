-- The command `decode`: the route that a model of the clauses of a problem stands for. The clauses
-- are built of the four files of the problem, and the model is read behind them.
use Rattle.std.specs.Prelude.{◌≡◌, ◌⊎◌, ◌++◌, ◌≤◌, ℕ, false, List, [], ◌∷◌, codes, Option, None, Some, Ok}
use Rattle.fpga_problem.specs.Sources.{StopsAt}
use Rattle.fpga_route.specs.Printed.{printed}
use Rattle.fpga_route.specs.ReadBack.{ReadsBack}
use Rattle.fpga_types.specs.Given.{IsGiven}
use Rattle.fpga_types.specs.declared.limits.TheConstants.{WIDTH_LIMIT}
use Rattle.model_text.specs.Assignments.{Gives}
use Rattle.model_text.specs.declared.assignment.Assignment.{Assignment}
use Rattle.model_text.specs.ModelText.{model_faults, model_said}
use Rattle.model_text.specs.Models.{first_unmet}
use Rattle.route_sweep.specs.Found.{IsUnbuilt}
use Rattle.route_sweep.specs.declared.found.FileSlot.TheVariants.{Route}
use Rattle.route_sweep.specs.declared.found.Stop.{Stop}
use Rattle.sat_clause.specs.declared.literal.Lit.{Lit}
use Rattle.run_clauses.specs.Method.{IsCrowdFor, IsRoutingBy, clauses_by}
use Rattle.run_outcome.specs.Report.{stop_outcome, unread_outcome}
use Rattle.run_clauses.specs.Suited.{LeavesPrepared, LeavesSuited}
use Rattle.run_outcome.specs.Written.{AreWritten, JobFile, WritesFiles, job_file}
use Rattle.run_outcome.specs.Subject.{Bytes, FileMap, ShelfState, Poses, Source, FileFault, ReadsThen, Says, RoutingProblem, RouteText, HasFew, Cnf, job_of, DecodeAsked, Decodes, Word}
use Rattle.run_outcome.specs.declared.outcome.Outcome.{Outcome}
use Rattle.run_outcome.specs.declared.outcome.Outcome.TheVariants.{Routed, NotModel, OutOfMemory}
use Rattle.run_outcome.specs.declared.slot.Slot.TheVariants.{File}
use Rattle.run_outcome.specs.declared.text_file.TheConstants.{PROOF_BYTES}
use Rattle.run_outcome.specs.declared.text_file.TextFile.TheVariants.{Model}

-- a model of so many variables
abbrev pub model_source : Bytes → (vars : ℕ) → Source
model_source name vars = record { name = name; limit = PROOF_BYTES; faults = model_faults vars }

-- the assignment has what the file of a model of so many variables says
pub record SaysModel (files : Option FileMap) (name : Bytes) (vars : ℕ) (a : Assignment) : Type 0
  where
    pub literals : List Lit
    pub says : Says files (model_source name vars) model_said literals
    pub gives : Gives vars literals a

-- it has what some literals say
abbrev pub IsModelOf : (vars : ℕ) → Assignment → Type 0
IsModelOf vars a = (literals : List Lit) × Gives vars literals a

-- the file of a route
abbrev pub decoded_file : DecodeAsked → RouteText → JobFile
decoded_file job found = job_file (File Route) (job.prefix ++ codes ".route") (printed found)

-- what a run comes to by the first clause without a literal of the model, if there is one
abbrev pub decoded_outcome : (width : ℕ) → Option ℕ → Outcome
decoded_outcome width None = Routed width
decoded_outcome width (Some clause) = NotModel clause

-- ---- what is left

-- memory ran out, and nothing was written; or there is a route that counts, and its file was
-- written, or not whole
abbrev pub LeavesRouting : DecodeAsked → (good : RouteText → Type 0) → (before now : ShelfState)
    → Outcome → Type 0
LeavesRouting job good before now outcome =
    ((outcome ≡ OutOfMemory) × (now ≡ before))
    ⊎ ((found : RouteText) × good found
    × WritesFiles (Routed job.width) (decoded_file job found ∷ []) before now outcome)

-- a clause has none of the literals, the outcome names the first such clause, and nothing was
-- written; or each clause has one, and a route is made of them
abbrev pub LeavesJudged : DecodeAsked → Cnf → (good : RouteText → Type 0) → (literals : List Lit)
    → (before now : ShelfState) → Outcome → Type 0
LeavesJudged job formula good literals before now outcome =
    ((clause : ℕ) × (first_unmet literals formula.clauses ≡ Some clause)
    × (outcome ≡ NotModel clause) × (now ≡ before))
    ⊎ ((first_unmet literals formula.clauses ≡ None)
    × LeavesRouting job good before now outcome)

-- the model was not read, and nothing was written; or it says these literals, and they are judged
abbrev pub LeavesModel : (Source → FileFault → Type 0) → Option FileMap → DecodeAsked → Cnf
    → (good : RouteText → Type 0) → (before now : ShelfState) → Outcome → Type 0
LeavesModel stops files job formula good before now outcome =
    (StopsAt stops (model_source job.model formula.vars) (unread_outcome Model) outcome
    × (now ≡ before))
    ⊎ ((literals : List Lit)
    × Says files (model_source job.model formula.vars) model_said literals
    × LeavesJudged job formula good literals before now outcome)

-- the clauses were not built, and nothing was written; or there are few enough, and the model is
-- read
abbrev pub LeavesClauses : (Source → FileFault → Type 0) → Option FileMap → DecodeAsked → Cnf
    → (good : RouteText → Type 0) → (before now : ShelfState) → Outcome → Type 0
LeavesClauses stops files job formula good before now outcome =
    ((stop : Stop) × IsUnbuilt 1 formula stop × (outcome ≡ stop_outcome stop) × (now ≡ before))
    ⊎ (HasFew formula × LeavesModel stops files job formula good before now outcome)

-- the clauses of the problem, which was given, by a crowd of it if they go by one, at the width of
-- the job
pub record DecodesProblem
    (stops : Source → FileFault → Type 0) (files : Option FileMap) (job : DecodeAsked)
    (p : RoutingProblem) (before now : ShelfState) (outcome : Outcome) : Type 0 where
  pub given : IsGiven p
  pub narrow : job.width ≤ WIDTH_LIMIT
  pub crowd : List ℕ
  pub known : IsCrowdFor job.method false crowd p
  pub left : LeavesClauses stops files job (clauses_by job.method crowd job.width p)
      (IsRoutingBy job.method job.width p) before now outcome

-- what `decode` leaves of its problem
abbrev pub DecodeLeaves : (Source → FileFault → Type 0) → Option FileMap → DecodeAsked
    → RoutingProblem → (before now : ShelfState) → Outcome → Type 0
DecodeLeaves stops files job = LeavesSuited job.method job.width job.width
    (LeavesPrepared job.method false (DecodesProblem stops files job))

-- ---- what the answers mean

-- the words ask for the route of a model, the four files pose a problem, and the model says these
-- literals, of the variables of its clauses, by a crowd of it if they go by one
pub record ReadsModel (words : List Word) (desk : Option FileMap) : Type 0 where
  pub job : DecodeAsked
  pub asked : job_of words ≡ Ok (Decodes job)
  pub p : RoutingProblem
  pub poses : Poses desk job.files p
  pub crowd : List ℕ
  pub known : IsCrowdFor job.method false crowd p
  pub few : HasFew (clauses_by job.method crowd job.width p)
  pub literals : List Lit
  pub says : Says desk
      (model_source job.model (clauses_by job.method crowd job.width p).vars) model_said literals

-- the number of the first of the clauses that has none of the model's literals
abbrev pub unmet_in : {words : List Word} {desk : Option FileMap} → ReadsModel words desk
    → Option ℕ
unmet_in model = first_unmet model.literals
    (clauses_by model.job.method model.crowd model.job.width model.p).clauses

-- each clause has a literal of the model, and one file alone was written: the printed form of a
-- routing of the problem with so many tracks, which reads back
pub record IsDecoded (words : List Word) (desk before now : Option FileMap) (width : ℕ) : Type 0
  where
    pub model : ReadsModel words desk
    pub width_is : width ≡ model.job.width
    pub met : unmet_in model ≡ None
    pub found : RouteText
    pub routing : IsRoutingBy model.job.method width model.p found
    pub reads_back : ReadsBack found
    pub written : AreWritten (decoded_file model.job found ∷ []) before now

-- this is the first clause that has no literal of the model, and no file has changed
pub record IsNoModel (words : List Word) (desk before now : Option FileMap) (clause : ℕ) : Type 0
  where
    pub model : ReadsModel words desk
    pub first : unmet_in model ≡ Some clause
    pub same : now ≡ before

-- ---- what is true

-- the model is not read, and the outcome says why; or it says literals, and the outcome is the one
-- by the first clause without one of them
abbrev pub IsTrueOfModel : (Source → FileFault → Type 0) → Option FileMap → DecodeAsked → Cnf
    → Outcome → Type 0
IsTrueOfModel stops files job formula =
    ReadsThen stops files (model_source job.model formula.vars) (unread_outcome Model) model_said
    (λ literals outcome.
    outcome ≡ decoded_outcome job.width (first_unmet literals formula.clauses))
