-- The problem that a run works on.
use Rattle.std.specs.Prelude.{◌≡◌, ⊤, IsSome, List, Option, None, Some, Ok}
use Rattle.desk_io.specs.Files.{FileMap}
use Rattle.run_outcome.specs.Subject.{Blames, Encodes, FileNames, JobAsked, Poses, RoutingProblem, Routes, Sweeps, Word, job_of}
use Rattle.run_outcome.specs.declared.outcome.Outcome.{Outcome}
use Rattle.run_outcome.specs.declared.outcome.Outcome.TheVariants.{InputFault, Limit, OutOfMemory, ReadFault, WriteFault}
use Rattle.run_outcome.specs.declared.slot.Slot.TheVariants.{Said}

-- the names of the four files that a job's problem is read from, if it works on one
abbrev pub problem_files : JobAsked → Option FileNames
problem_files (Routes job) = Some job.files
problem_files (Sweeps job) = Some job.files
problem_files (Encodes job) = Some job.files
problem_files (Blames job) = Some job.files
problem_files _ = None

-- the files that words name pose the problem
abbrev pub IsPosed : Option FileMap → List Word → RoutingProblem → Type 0
IsPosed files words p =
    (job : JobAsked) × (names : FileNames) × (job_of words ≡ Ok job)
    × (problem_files job ≡ Some names) × Poses files names p

-- what a run may come to that was given no problem to work on: a file has a fault or cannot be
-- read, memory is too short, or what there is to say of that was not said
abbrev pub EndsWithoutProblem : Outcome → Type 0
EndsWithoutProblem (InputFault file line code) = ⊤
EndsWithoutProblem (Limit file code count) = IsSome file
EndsWithoutProblem (ReadFault file) = ⊤
EndsWithoutProblem (WriteFault Said) = ⊤
EndsWithoutProblem OutOfMemory = ⊤
EndsWithoutProblem outcome = ⊥

-- words that ask for work on a problem have come to such an end
abbrev pub LacksProblem : List Word → Outcome → Type 0
LacksProblem words outcome = (job : JobAsked) (names : FileNames) → job_of words ≡ Ok job
    → problem_files job ≡ Some names → EndsWithoutProblem outcome
