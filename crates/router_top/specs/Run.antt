-- A run: the words, then the files in their order, then the work, and last the report.
use Rattle.std.specs.Prelude.{◌≡◌, ◌⊎◌, List, MatchResult}
use Rattle.router_words.specs.Refusal.{code_of}
use Rattle.run_placed.specs.Bound.{BoundsTo}
use Rattle.run_checks.specs.Causes.{LeavesVerified}
use Rattle.run_checks.specs.Check.{ChecksTo}
use Rattle.run_clauses.specs.Decode.{DecodeLeaves}
use Rattle.run_made.specs.Generated.{Makes, PosesNone, WritesGenerated}
use Rattle.run_checks.specs.Placed.{IsTrueJudgement, JudgesPlaced}
use Rattle.run_outcome.specs.Report.{IsReadFault, Reports}
use Rattle.router_top.specs.Core.{CoreLeaves}
use Rattle.run_clauses.specs.Encode.{EncodeLeaves}
use Rattle.router_top.specs.Work.{RouteLeaves, SweepLeaves, Tries}
use Rattle.run_outcome.specs.Subject.{DeskState, ShelfState, IsStopped, RoutingProblem, job_of, Blames, Bounds, Checks, Decodes as DecodesJob, Encodes as EncodesJob, Generates, JobAsked, Judges, Narrows, Negotiates, Routes, Sweeps as SweepsJob, TrialAsked, Tries as TriesJob, Verifies, Word}
use Rattle.run_outcome.specs.declared.outcome.Outcome.{Outcome}
use Rattle.run_outcome.specs.declared.outcome.Outcome.TheVariants.{Usage, OutOfMemory}
use Rattle.run_outcome.specs.Scene.{LeavesPlaced, LeavesWork, Scene, scene}
use Rattle.run_placed.specs.Global.{LeavesGlobal}
use Rattle.run_placed.specs.Least.{LeavesLeast}

-- nothing was written, since no problem was made, or one that is too large; or a problem was made
-- that is not, and this is what the trial of it leaves
abbrev pub TriesGenerated : TrialAsked → (before now : ShelfState) → Outcome → Type 0
TriesGenerated job before now outcome =
    (PosesNone job.recipe outcome × (now ≡ before))
    ⊎ ((p : RoutingProblem) × Makes job.recipe p × Tries job p before now outcome)

-- what each job leaves before its outcome is reported; to check a refutation and to judge a routed
-- file writes nothing, and no file is read where a problem is generated
abbrev pub LeavesJob : JobAsked → Scene → Outcome → Type 0
LeavesJob (Routes job) at outcome = LeavesWork job.files (RouteLeaves job) at outcome
LeavesJob (SweepsJob job) at outcome = LeavesWork job.files (SweepLeaves job) at outcome
LeavesJob (EncodesJob job) at outcome = LeavesWork job.files (EncodeLeaves job) at outcome
LeavesJob (DecodesJob job) at outcome =
    LeavesWork job.files (DecodeLeaves (IsStopped at.desk at.desk_now) at.desk.files job) at outcome
LeavesJob (Blames job) at outcome = LeavesWork job.files (CoreLeaves job) at outcome
LeavesJob (Checks job) at outcome =
    ChecksTo (IsStopped at.desk at.desk_now) at.desk.files job outcome
    × (at.shelf_now ≡ at.shelf)
LeavesJob (Verifies job) at outcome =
    LeavesVerified (IsStopped at.desk at.desk_now) at.desk.files job at.shelf at.shelf_now outcome
LeavesJob (Judges job) at outcome =
    JudgesPlaced (IsStopped at.desk at.desk_now) at.desk.files job (IsTrueJudgement job) outcome
    × (at.shelf_now ≡ at.shelf)
LeavesJob (Bounds job) at outcome = LeavesPlaced job.files BoundsTo at outcome
LeavesJob (Negotiates job) at outcome = LeavesGlobal job at outcome
LeavesJob (Narrows job) at outcome = LeavesLeast job at outcome
LeavesJob (Generates job) at outcome =
    WritesGenerated job at.shelf at.shelf_now outcome × (at.desk_now ≡ at.desk)
LeavesJob (TriesJob job) at outcome =
    TriesGenerated job at.shelf at.shelf_now outcome × (at.desk_now ≡ at.desk)

-- by what the words ask for; where they are not taken, or memory is too short for them, nothing is
-- written
abbrev pub Leaves : List Word → Scene → Outcome → Type 0
Leaves words at outcome =
    ((outcome ≡ OutOfMemory) × (at.shelf_now ≡ at.shelf))
    ⊎ MatchResult (job_of words) (λ job. LeavesJob job at outcome)
    (λ cause. (outcome ≡ Usage (code_of cause)) × (at.shelf_now ≡ at.shelf))

-- a run: the work leaves a shelf with an outcome, which is reported; the files of the desk stay,
-- and where the desk has not failed, its count of faults is as it was
pub record Runs
    (words : List Word) (desk desk_now : DeskState) (shelf shelf_now : ShelfState)
    (answer : Outcome) : Type 0 where
  pub outcome : Outcome
  pub between : ShelfState
  pub leaves : Leaves words (scene desk desk_now shelf between) outcome
  pub files_stay : desk_now.files ≡ desk.files
  pub quiet : ¬ IsReadFault outcome → desk_now.faults ≡ desk.faults
  pub reports : Reports between outcome shelf_now answer
