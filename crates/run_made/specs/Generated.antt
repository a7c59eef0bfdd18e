-- Problems that are made from a number, and their files.
use Rattle.std.specs.Prelude.{◌≡◌, ◌⊎◌, ◌*◌, ◌<◌, ◌≤◌, ◌+◌, List, [], ◌∷◌, length, Some, None}
use Rattle.fpga_problem.specs.Files.{names_behind}
use Rattle.fpga_problem.specs.declared.text_file.TextFile.TheVariants.{Route}
use Rattle.fpga_types.specs.FitCauses.{code_of}
use Rattle.fpga_types.specs.Slots.{slots}
use Rattle.fpga_types.specs.Texts.{Texts}
use Rattle.fpga_types.specs.declared.fit_cause.FitCause.TheVariants.{PastLimit}
use Rattle.fpga_types.specs.declared.limits.TheConstants.{SIDE_LIMIT, SLOT_LIMIT}
use Rattle.route_gen.specs.Fitting.{AreRead}
use Rattle.route_gen.specs.Generated.{generated}
use Rattle.run_outcome.specs.SizeCauses.{size_code}
use Rattle.run_outcome.specs.declared.size_cause.SizeCause.TheVariants.{GeneratedNets}
use Rattle.run_outcome.specs.Written.{JobFile, job_file, WritesFiles}
use Rattle.run_outcome.specs.Subject.{FileNames, RoutingProblem, RecipeAsked, Word, ShelfState, GenAsked}
use Rattle.run_outcome.specs.declared.outcome.Outcome.{Outcome}
use Rattle.run_outcome.specs.declared.outcome.Outcome.TheVariants.{Limit, OutOfMemory, Done}
use Rattle.run_outcome.specs.declared.slot.Slot.TheVariants.{Architecture, Netlist, Placement, GlobalRoute}
use Rattle.run_outcome.specs.declared.text_file.TextFile.TheVariants.{Problem}

-- there is a block to drive each net
abbrev pub HasRoom : RecipeAsked → Type 0
HasRoom recipe = recipe.nets ≤ recipe.side * recipe.side

-- there are more nets than blocks, and the outcome has their number
abbrev pub IsTooMany : RecipeAsked → Outcome → Type 0
IsTooMany recipe outcome =
    (recipe.side * recipe.side < recipe.nets)
    × (outcome ≡ Limit None (size_code GeneratedNets) recipe.nets)

-- no problem was made, and the outcome says why
abbrev pub MakesNone : RecipeAsked → Outcome → Type 0
MakesNone recipe outcome = IsTooMany recipe outcome ⊎ (outcome ≡ OutOfMemory)

-- the texts of the problem
abbrev pub texts_of : RecipeAsked → Texts
texts_of recipe = generated recipe.seed recipe.side recipe.nets

-- four texts under these names, in the order in which they are written
abbrev pub problem_files : FileNames → Texts → List JobFile
problem_files names texts =
    job_file Architecture names.architecture texts.architecture
    ∷ job_file Netlist names.netlist texts.netlist
    ∷ job_file Placement names.placement texts.placement
    ∷ job_file GlobalRoute names.route texts.route ∷ []

-- an array may have this side, there is a block to drive each net, and the texts read as the four
-- values of this problem
pub record IsMade (recipe : RecipeAsked) (p : RoutingProblem) : Type 0 where
  pub side : (1 ≤ recipe.side) × (recipe.side ≤ SIDE_LIMIT)
  pub room : HasRoom recipe
  pub read : AreRead (texts_of recipe) p

-- the problem that is made has more slots than may be, and the outcome says so
abbrev pub IsTooLarge : RecipeAsked → Outcome → Type 0
IsTooLarge recipe outcome =
    (p : RoutingProblem) × IsMade recipe p × (SLOT_LIMIT < length (slots p.route))
    × (outcome ≡ Limit (Some (Problem Route)) (code_of PastLimit) (SLOT_LIMIT + 1))

-- this problem is made, and has no more slots than may be
pub record Makes (recipe : RecipeAsked) (p : RoutingProblem) : Type 0 where
  pub made : IsMade recipe p
  pub few : length (slots p.route) ≤ SLOT_LIMIT

-- no problem was made, or one with too many slots, and the outcome says which
abbrev pub PosesNone : RecipeAsked → Outcome → Type 0
PosesNone recipe outcome = MakesNone recipe outcome ⊎ IsTooLarge recipe outcome

-- the files of the problem
abbrev pub generated_files : RecipeAsked → (prefix : Word) → List JobFile
generated_files recipe prefix = problem_files (names_behind prefix) (texts_of recipe)

-- nothing was written, since no problem was made; or one was, and its files were written
abbrev pub WritesGenerated : GenAsked → (before now : ShelfState) → Outcome → Type 0
WritesGenerated job before now outcome =
    (MakesNone job.recipe outcome × (now ≡ before))
    ⊎ (HasRoom job.recipe
    × WritesFiles Done (generated_files job.recipe job.prefix) before now outcome)
