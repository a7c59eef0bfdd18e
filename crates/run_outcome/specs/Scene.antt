-- The desk and the shelf before the work of a run and after it, and what the work on the problem or
-- the placed netlist leaves that its files pose.
use Rattle.std.specs.Prelude.{◌≡◌, ◌⊎◌, Option}
use Rattle.fpga_types.specs.Problem.{PlacedNetlist}
use Rattle.fpga_problem.specs.Files.{PlacedNames, PosesPlaced, ArePlacedUnread}
use Rattle.run_outcome.specs.Report.{GivesNone, unread_outcome}
use Rattle.run_outcome.specs.Subject.{DeskState, ShelfState, FileNames, Poses, IsStopped, RoutingProblem, FileMap, Source, FileFault}
use Rattle.run_outcome.specs.declared.outcome.Outcome.{Outcome}
use Rattle.fpga_problem.specs.declared.unread.Unread.{Unread}
use Rattle.run_outcome.specs.declared.text_file.TextFile.TheVariants.{Problem}

-- the desk and the shelf before the work and after it
pub record Scene : Type 0 where
  pub desk : DeskState
  pub desk_now : DeskState
  pub shelf : ShelfState
  pub shelf_now : ShelfState

abbrev pub scene : (desk desk_now : DeskState) (shelf shelf_now : ShelfState) → Scene
scene desk desk_now shelf shelf_now =
    record { desk = desk; desk_now = desk_now; shelf = shelf; shelf_now = shelf_now }

-- nothing was written, since the four files give no problem; or they pose one, and this is what the
-- work on it leaves
abbrev pub LeavesWork : FileNames
    → (RoutingProblem → (before now : ShelfState) → Outcome → Type 0) → Scene → Outcome → Type 0
LeavesWork names works at outcome =
    (GivesNone (IsStopped at.desk at.desk_now) at.desk.files names outcome
    × (at.shelf_now ≡ at.shelf))
    ⊎ ((p : RoutingProblem) × Poses at.desk.files names p
    × works p at.shelf at.shelf_now outcome)

-- the three files give no placed netlist, and the outcome says why: the work stops at a file, those
-- before it read
abbrev pub GivesNoPlaced : (Source → FileFault → Type 0) → Option FileMap → PlacedNames → Outcome
    → Type 0
GivesNoPlaced stops files names outcome =
    (unread : Unread) × ArePlacedUnread stops files names unread
    × (outcome ≡ unread_outcome (Problem unread.file) unread.fault)

-- they give none, and the outcome says why; or they pose one, and the work on it comes to this
abbrev pub WorksOnPlaced : (Source → FileFault → Type 0) → Option FileMap → PlacedNames
    → (PlacedNetlist → Outcome → Type 0) → Outcome → Type 0
WorksOnPlaced stops files names works outcome =
    GivesNoPlaced stops files names outcome
    ⊎ ((placed : PlacedNetlist) × PosesPlaced files names placed × works placed outcome)

-- nothing was written, since the three files give no placed netlist; or they pose one, and this is
-- what the work on it leaves
abbrev pub LeavesPlaced : PlacedNames
    → (PlacedNetlist → (before now : ShelfState) → Outcome → Type 0) → Scene → Outcome → Type 0
LeavesPlaced names works at outcome =
    (GivesNoPlaced (IsStopped at.desk at.desk_now) at.desk.files names outcome
    × (at.shelf_now ≡ at.shelf))
    ⊎ ((placed : PlacedNetlist) × PosesPlaced at.desk.files names placed
    × works placed at.shelf at.shelf_now outcome)
