-- What each outcome but those of faults says of the words and of the files.
use Rattle.std.specs.Prelude.{◌≡◌, ◌⊎◌, ℕ, ◌<◌, ◌≤◌, List, false, length, MatchResult, Option, None, Some}
use Rattle.std.specs.Option.{ForSome}
use Rattle.desk_io.specs.Files.{HasRisen}
use Rattle.route_sweep.specs.Found.{IsHeld}
use Rattle.route_ways.specs.Way.{MayEndAfter, copies_by}
use Rattle.sat_clause.specs.declared.limits.TheConstants.{CLAUSE_LIMIT}
use Rattle.router_words.specs.Refusal.{code_of}
use Rattle.run_outcome.specs.SizeCauses.{size_code}
use Rattle.run_outcome.specs.declared.size_cause.SizeCause.TheVariants.{FormulaClauses, ClausesOfTurns}
use Rattle.run_placed.specs.Bound.{IsTrueOfCut}
use Rattle.run_checks.specs.Check.{ChecksTo, VerifiesTo}
use Rattle.run_clauses.specs.Decode.{IsTrueOfModel}
use Rattle.run_made.specs.Generated.{HasRoom, IsTooLarge, IsTooMany, Makes}
use Rattle.run_clauses.specs.Method.{HasNone, HasOne, clauses_by, IsCrowdFor}
use Rattle.run_checks.specs.Placed.{IsJudgement, JudgesPlaced}
use Rattle.run_outcome.specs.Scene.{WorksOnPlaced}
use Rattle.run_outcome.specs.Report.{GivesNone}
use Rattle.router_top.specs.Search.{Search, HasCrowd, clauses_at, clauses_held, core_search, route_search, sweep_of, sweep_search}
use Rattle.run_outcome.specs.Stopped.{are_timed}
use Rattle.run_clauses.specs.Suited.{IsTrueOfSuited}
use Rattle.run_outcome.specs.Subject.{DeskState, FileMap, ShelfState, FileNames, Poses, IsHalted, RoutingProblem, job_of, Blames, Bounds, Checks, DecodeAsked, Decodes, EncodeAsked, Encodes, Generates, JobAsked, Judges, Narrows, Negotiates, Routes, Sweeps, Tries, Verifies, Word}
use Rattle.run_outcome.specs.declared.outcome.Outcome.{Outcome}
use Rattle.run_outcome.specs.declared.outcome.Outcome.TheVariants.{Routed, Unroutable, Undecided, Done, Limit, Usage, OutOfMemory}
use Rattle.run_outcome.specs.declared.size_cause.SizeCause.{SizeCause}
use Rattle.run_outcome.specs.Agrees.{Agrees}
use Rattle.run_placed.specs.Global.{IsTrueOfGlobal}
use Rattle.run_placed.specs.Least.{IsTrueOfNarrows}

-- so many clauses are more than may be built, as this cause says, and the outcome has their number;
-- or they are not, and this is true
abbrev pub IsTrueOfCount : SizeCause → (count : ℕ) → (says : Type 0) → Outcome → Type 0
IsTrueOfCount cause count says outcome =
    ((CLAUSE_LIMIT < count) × (outcome ≡ Limit None (size_code cause) count))
    ⊎ ((count ≤ CLAUSE_LIMIT) × says)

-- the crowd that the search goes by, if it does, is one of the problem, and it comes to this width:
-- each lower one that it tries has few enough clauses, in all copies that are held, and no legal
-- routing
pub record IsReached (search : Search) (p : RoutingProblem) (width : ℕ) : Type 0 where
  pub crowd : HasCrowd search p
  pub from : search.first ≤ width
  pub to : width ≤ search.last
  pub lower : (k : ℕ) → search.first ≤ k → k < width
      → IsHeld (copies_by search.way) (clauses_at search k p) × HasNone search.method k p

-- the outcome says that a search was left open at this width, after as many learned clauses as it
-- may be
abbrev pub IsOpenAt : Search → (width : ℕ) → Outcome → Type 0
IsOpenAt search width outcome =
    (learned : ℕ) × MayEndAfter search.way learned × (outcome ≡ Undecided width learned)

-- there is a legal routing at this width, or it is the last one and there is none, and the outcome
-- says which; or it says that a search was left open
abbrev pub IsTrueAt : Search → RoutingProblem → (width : ℕ) → Outcome → Type 0
IsTrueAt search p width outcome =
    (HasOne search.method width p × (outcome ≡ Routed width))
    ⊎ (HasNone search.method width p × (width ≡ search.last) × (outcome ≡ Unroutable width))
    ⊎ IsOpenAt search width outcome

-- the search comes to a width, of whose clauses or routings the outcome is true
abbrev pub IsTrueOfSearch : Search → RoutingProblem → Outcome → Type 0
IsTrueOfSearch search p outcome =
    (width : ℕ) × IsReached search p width
    × IsTrueOfCount FormulaClauses (length (clauses_at search width p).clauses)
    (IsTrueOfCount ClausesOfTurns (clauses_held search width p) (IsTrueAt search p width outcome)
    outcome) outcome

-- the method does not suit the problem at each width of the search, and the outcome says so; or it
-- does, and the outcome is true of the search
abbrev pub IsTrueOfSuitedSearch : Search → RoutingProblem → Outcome → Type 0
IsTrueOfSuitedSearch search p outcome =
    IsTrueOfSuited search.method search.first search.last p (IsTrueOfSearch search p outcome)
    outcome

-- the method does not suit the problem at the width, and the outcome says so; or it does, and of
-- its clauses, by a crowd of the problem if they go by one, there are too many, or they were
-- written
abbrev pub IsTrueOfEncoding : EncodeAsked → (crowd : List ℕ) → RoutingProblem → Outcome → Type 0
IsTrueOfEncoding job crowd p outcome =
    IsTrueOfSuited job.method job.width job.width p
    (IsCrowdFor job.method false crowd p
    × IsTrueOfCount FormulaClauses (length (clauses_by job.method crowd job.width p).clauses)
    (outcome ≡ Done) outcome) outcome

-- the method does not suit the problem at the width, and the outcome says so; or it does, and of
-- its clauses, by a crowd of the problem if they go by one, there are too many, or this is true of
-- the model that the files hold
abbrev pub IsTrueOfDecoding : DecodeAsked → (crowd : List ℕ) → Option FileMap → RoutingProblem
    → Outcome → Type 0
IsTrueOfDecoding job crowd files p outcome =
    IsTrueOfSuited job.method job.width job.width p
    (IsCrowdFor job.method false crowd p
    × IsTrueOfCount FormulaClauses (length (clauses_by job.method crowd job.width p).clauses)
    (IsTrueOfModel (IsHalted files) files job (clauses_by job.method crowd job.width p) outcome)
    outcome) outcome

-- the four files give no problem, and the outcome says why; or they pose one, of which it is true
abbrev pub IsTrueOfWork : FileNames → (RoutingProblem → Outcome → Type 0) → Option FileMap
    → Outcome → Type 0
IsTrueOfWork names says files outcome =
    GivesNone (IsHalted files) files names outcome
    ⊎ ((p : RoutingProblem) × Poses files names p × says p outcome)

-- what an outcome says of the files of each job, where this crowd is gone by
abbrev pub IsTrueOfJob : (crowd : List ℕ) → JobAsked → Option FileMap → Outcome → Type 0
IsTrueOfJob crowd (Routes job) files outcome =
    IsTrueOfWork job.files (IsTrueOfSuitedSearch (route_search job crowd)) files outcome
IsTrueOfJob crowd (Sweeps job) files outcome =
    IsTrueOfWork job.files (IsTrueOfSuitedSearch (sweep_search job crowd)) files outcome
IsTrueOfJob crowd (Encodes job) files outcome =
    IsTrueOfWork job.files (IsTrueOfEncoding job crowd) files outcome
IsTrueOfJob crowd (Decodes job) files outcome =
    IsTrueOfWork job.files (IsTrueOfDecoding job crowd files) files outcome
IsTrueOfJob crowd (Blames job) files outcome =
    IsTrueOfWork job.files (IsTrueOfSuitedSearch (core_search job crowd)) files outcome
IsTrueOfJob crowd (Checks job) files outcome = ChecksTo (IsHalted files) files job outcome
IsTrueOfJob crowd (Verifies job) files outcome = VerifiesTo (IsHalted files) files job outcome
IsTrueOfJob crowd (Judges job) files outcome =
    JudgesPlaced (IsHalted files) files job (IsJudgement job) outcome
IsTrueOfJob crowd (Bounds job) files outcome =
    WorksOnPlaced (IsHalted files) files job.files IsTrueOfCut outcome
IsTrueOfJob crowd (Negotiates job) files outcome = IsTrueOfGlobal job files outcome
IsTrueOfJob crowd (Narrows job) files outcome = IsTrueOfNarrows job files outcome
IsTrueOfJob crowd (Generates job) files outcome =
    IsTooMany job.recipe outcome ⊎ (HasRoom job.recipe × (outcome ≡ Done))
IsTrueOfJob crowd (Tries job) files outcome =
    IsTooMany job.recipe outcome ⊎ IsTooLarge job.recipe outcome
    ⊎ ((p : RoutingProblem) × Makes job.recipe p
    × IsTrueOfSearch (sweep_search (sweep_of job) crowd) p outcome)

-- by what the words ask for, or by the code of what keeps them from being taken
abbrev pub IsTrueBy : (crowd : List ℕ) → List Word → Option FileMap → Outcome → Type 0
IsTrueBy crowd words files outcome =
    MatchResult (job_of words) (λ job. IsTrueOfJob crowd job files outcome)
    (λ cause. outcome ≡ Usage (code_of cause))

-- so by some crowd
abbrev pub IsTrueOf : List Word → Option FileMap → Outcome → Type 0
IsTrueOf words files outcome = (crowd : List ℕ) × IsTrueBy crowd words files outcome

-- if both are true by one crowd, they agree; where tracks are not kept in order, any crowd serves
abbrev pub AgreeByCrowd : List Word → FileMap → (answer outcome : Outcome) → Type 0
AgreeByCrowd words files answer outcome =
    (crowd : List ℕ) → IsTrueBy crowd words (Some files) answer
    → IsTrueBy crowd words (Some files) outcome → Agrees (are_timed words) answer outcome

-- where the files are told, no fault has risen, memory sufficed and some outcome is true, the
-- answer is true and agrees with that outcome, by any crowd that makes both true
abbrev pub IsComplete : List Word → (desk desk_now : DeskState) → (shelf shelf_now : ShelfState)
    → Outcome → Type 0
IsComplete words desk desk_now shelf shelf_now answer =
    (outcome : Outcome) → ForSome desk.files (λ files. IsTrueOf words (Some files) outcome
    → ¬ HasRisen desk.faults desk_now.faults → ¬ HasRisen shelf.faults shelf_now.faults
    → (IsTrueOf words (Some files) answer × AgreeByCrowd words files answer outcome)
    ⊎ (answer ≡ OutOfMemory))
