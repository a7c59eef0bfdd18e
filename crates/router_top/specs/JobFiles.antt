-- The files of a job in the order in which they are written, and what a run leaves of them,
-- whatever fails.
use Rattle.std.specs.Prelude.{◌≡◌, ◌⊎◌, ℕ, ◌≤◌, ◌++◌, List, [], ◌∷◌, false, length, take, IsSome, Ok, Option, Some}
use Rattle.std.specs.List.{All}
use Rattle.desk_io.specs.Changes.{OnlyChanges, held}
use Rattle.desk_io.specs.Reading.{IsWhole}
use Rattle.fpga_types.specs.Problem.{PlacedNetlist}
use Rattle.router_top.specs.Comes.{ComesTo, lower_files, EndsSearch}
use Rattle.run_clauses.specs.Decode.{decoded_file}
use Rattle.run_made.specs.Generated.{HasRoom, generated_files}
use Rattle.run_placed.specs.Global.{HasFiles, IsFoundRoute, found_file}
use Rattle.route_bound.specs.declared.cut.Cut.{Cut}
use Rattle.run_placed.specs.Least.{IsCutOfLeast, IsFoundFrom}
use Rattle.run_clauses.specs.Method.{IsRoutingBy, clauses_by, IsCrowdFor}
use Rattle.run_placed.specs.Raised.{least_names, narrowed_files}
use Rattle.router_top.specs.Search.{Search, proof_files, route_file, clauses_at}
use Rattle.run_placed.specs.declared.narrowing.FoundAt.{FoundAt}
use Rattle.run_placed.specs.declared.raising.Raised.{Raised}
use Rattle.run_outcome.specs.SizeCauses.{size_code}
use Rattle.run_outcome.specs.SlotNames.{name_written}
use Rattle.run_outcome.specs.declared.size_cause.SizeCause.TheVariants.{ClausesOfTurns, FormulaClauses}
use Rattle.run_clauses.specs.Encode.{clauses_file}
use Rattle.run_outcome.specs.Written.{AreWritten, JobFile, with_file}
use Rattle.run_outcome.specs.Subject.{FileMap, Poses, RoutingProblem, RouteText, HasFew, Step, job_of, DecodeAsked, Decodes, EncodeAsked, Encodes, GenAsked, Generates, GlobalAsked, Negotiates, JobAsked, SweepAsked, Sweeps, TrialAsked, Tries, Word}
use Rattle.run_outcome.specs.declared.outcome.Outcome.{Outcome}
use Rattle.run_outcome.specs.declared.outcome.Outcome.TheVariants.{InputFault, Limit, NotSymmetric, Unfound, NoWay, NotModel, Beyond, Usage, ReadFault, WriteFault}
use Rattle.run_outcome.specs.declared.slot.Slot.{Slot}
use Rattle.run_outcome.specs.declared.slot.Slot.TheVariants.{Said}

-- ---- the files of each job

-- the job that the words ask for gives the file of this slot its name
abbrev pub IsNamed : List Word → JobFile → Type 0
IsNamed words file =
    (job : JobAsked) → job_of words ≡ Ok job → name_written job file.slot ≡ Some file.name

-- what a search writes at a width that has few enough clauses: a legal routing; or the clauses, and
-- then a log that refutes them or leaves them open
abbrev pub AreFound : Search → RoutingProblem → (width : ℕ) → List JobFile → Type 0
AreFound search p width files =
    HasFew (clauses_at search width p)
    × (((found : RouteText) × IsRoutingBy search.method width p found
    × (files ≡ route_file search found ∷ []))
    ⊎ ((log : List Step) × EndsSearch search p width log
    × (files ≡ proof_files search p width log)))

-- of a search that comes to a width: the files of the lower ones, and then what it writes there, if
-- it is not kept from it
pub record AreSearched (words : List Word) (desk : Option FileMap) (files : List JobFile)
    : Type 0 where
  pub width : ℕ
  pub comes : ComesTo words desk width
  pub here : List JobFile
  pub found : AreFound comes.search comes.p width here ⊎ (here ≡ [])
  pub order : files ≡ lower_files comes ++ here

-- of `encode`: the clauses of the problem, of which there are few enough
pub record AreEncoded (words : List Word) (desk : Option FileMap) (files : List JobFile)
    : Type 0 where
  pub job : EncodeAsked
  pub asked : job_of words ≡ Ok (Encodes job)
  pub p : RoutingProblem
  pub poses : Poses desk job.files p
  pub crowd : List ℕ
  pub known : IsCrowdFor job.method false crowd p
  pub few : HasFew (clauses_by job.method crowd job.width p)
  pub order : files ≡ clauses_file job crowd p ∷ []

-- of `gen`: the four files of a problem that has blocks for its nets
pub record AreGenerated (words : List Word) (files : List JobFile) : Type 0 where
  pub job : GenAsked
  pub asked : job_of words ≡ Ok (Generates job)
  pub room : HasRoom job.recipe
  pub order : files ≡ generated_files job.recipe job.prefix

-- of `global`: the route that was found
pub record AreNegotiated (words : List Word) (desk : Option FileMap) (files : List JobFile)
    : Type 0 where
  pub job : GlobalAsked
  pub asked : job_of words ≡ Ok (Negotiates job)
  pub placed : PlacedNetlist
  pub has : HasFiles desk job placed
  pub found : RouteText
  pub route : IsFoundRoute job placed found
  pub order : files ≡ found_file job found ∷ []

-- of `least`: the same, at a width from a bound on that was raised from the one of a best cut, and
-- behind it the clauses and the log that raised it, if some did
pub record AreNarrowed (words : List Word) (desk : Option FileMap) (files : List JobFile)
    : Type 0 where
  pub cut : Cut
  pub least : IsCutOfLeast words desk cut
  pub raised : Raised
  pub at : FoundAt
  pub found : IsFoundFrom least.job least.placed cut raised at
  pub order : files
      ≡ narrowed_files (least_names least.job.prefix) at.found raised.tracks raised.why

-- of `decode`: the route of a model
pub record AreDecoded (words : List Word) (desk : Option FileMap) (files : List JobFile)
    : Type 0 where
  pub job : DecodeAsked
  pub asked : job_of words ≡ Ok (Decodes job)
  pub p : RoutingProblem
  pub poses : Poses desk job.files p
  pub found : RouteText
  pub routing : IsRoutingBy job.method job.width p found
  pub order : files ≡ decoded_file job found ∷ []

-- the files that the words ask for, in the order in which they are written; none where the work
-- does not come to a file
abbrev pub AreFilesOf : List Word → (desk : Option FileMap) → List JobFile → Type 0
AreFilesOf words desk files =
    AreSearched words desk files ⊎ AreEncoded words desk files ⊎ AreGenerated words files
    ⊎ AreNegotiated words desk files ⊎ AreNarrowed words desk files ⊎ AreDecoded words desk files
    ⊎ (files ≡ [])

-- ---- what is left of them

-- a file was being written: it could not be created, and then no other one has changed; or it holds
-- so many bytes at the front of its text, and that is all that has changed
abbrev pub IsBegun : JobFile → (before now : Option FileMap) → Type 0
IsBegun file before now =
    OnlyChanges file.name before now
    ⊎ ((count : ℕ) × (count ≤ length file.text)
    × (now ≡ with_file (record file { text = take count file.text }) before))

-- the files of the job, as far as it has come, were written and no others, and each stands whole
pub record LeavesWhole (words : List Word) (desk before now : Option FileMap) : Type 0 where
  pub files : List JobFile
  pub of : AreFilesOf words desk files
  pub written : AreWritten files before now

-- the file of this slot was being written: the files of the job before it were written and stand
-- whole, those behind it are as they were, and so is each that is not of the job
pub record LeavesPart (words : List Word) (desk before now : Option FileMap) (slot : Slot)
    : Type 0 where
  pub files : List JobFile
  pub of : AreFilesOf words desk files
  pub whole : List JobFile
  pub part : JobFile
  pub later : List JobFile
  pub order : files ≡ whole ++ part ∷ later
  pub named : part.slot ≡ slot
  pub name : IsNamed words part
  pub between : Option FileMap
  pub written : AreWritten whole before between
  pub begun : IsBegun part between now
  pub stand : All (λ file. IsWhole now file.name file.text) whole
  pub stay : All (λ file. held now file.name ≡ held before file.name) later

-- the words ask for a search at one width after another
abbrev pub IsClimb : List Word → Type 0
IsClimb words =
    ((job : SweepAsked) × (job_of words ≡ Ok (Sweeps job)))
    ⊎ ((job : TrialAsked) × (job_of words ≡ Ok (Tries job)))

-- at each of them as many searches take turns
abbrev pub TakesTurns : List Word → Type 0
TakesTurns words =
    (job : SweepAsked) × (job_of words ≡ Ok (Sweeps job)) × IsSome job.members

-- the limit that is passed is that of the clauses at a width of a climb, of one copy of them or of
-- those of all searches that take turns
abbrev pub IsOfClauses : List Word → (code : ℕ) → Type 0
IsOfClauses words code =
    ((code ≡ size_code FormulaClauses) × IsClimb words)
    ⊎ ((code ≡ size_code ClausesOfTurns) × TakesTurns words)

-- what is left of the files, by the answer: nothing is written where the words are not taken, where
-- a file is not read or is refused, where tracks are not alike as the method asks, where rounds
-- have found no route, no wires reach a sink, a model leaves a clause unsatisfied or a cut asks for
-- more tracks than were to be tried, and where a limit is passed, but for that of the clauses in a
-- climb; a fault of a file leaves a part; and after each other answer the files that were begun are
-- whole
abbrev pub LeavesFiles : List Word → (desk before now : Option FileMap) → Outcome → Type 0
LeavesFiles words desk before now (Usage code) = now ≡ before
LeavesFiles words desk before now (ReadFault file) = now ≡ before
LeavesFiles words desk before now (InputFault file line code) = now ≡ before
LeavesFiles words desk before now (NotSymmetric width why) = now ≡ before
LeavesFiles words desk before now (Unfound width rounds stopped) = now ≡ before
LeavesFiles words desk before now (NoWay width) = now ≡ before
LeavesFiles words desk before now (NotModel clause) = now ≡ before
LeavesFiles words desk before now (Beyond tracks cells nets) = now ≡ before
LeavesFiles words desk before now (Limit file code count) =
    (now ≡ before)
    ⊎ (IsOfClauses words code × LeavesWhole words desk before now)
LeavesFiles words desk before now (WriteFault Said) = LeavesWhole words desk before now
LeavesFiles words desk before now (WriteFault slot) = LeavesPart words desk before now slot
LeavesFiles words desk before now outcome = LeavesWhole words desk before now
