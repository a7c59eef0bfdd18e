-- The runs of a case in which calls fail.
use Rattle.std.specs.Prelude.{All}
use Rattle.desk_io.specs.Memory.{MemShelfView}
use Rattle.rows.specs.Cut.{AreSame, IsAsCut}
use Rattle.rows.specs.Played.{Plays}
use Rattle.rows.specs.Wanted.{AreMet}
use Rattle.rows.specs.declared.cases.cut.Cut.{Cut}
use Rattle.rows.specs.declared.cases.row.Row.{Row}
use Rattle.run_outcome.specs.declared.outcome.Outcome.{Outcome}

-- a run of the row has come as it must where a call fails
abbrev pub HasCutRun : Row → (whole : MemShelfView) → Cut → Type 0
HasCutRun row whole cut =
    (outcome : Outcome) × (shelf : MemShelfView) × Plays row outcome shelf
    × IsAsCut cut row.wants.lead.items row.series.order.items whole outcome shelf

-- a run of the row has come as it must where no call fails, with the same files
abbrev pub HasWholeRun : Row → (whole : MemShelfView) → Type 0
HasWholeRun row whole =
    (outcome : Outcome) × (shelf : MemShelfView) × Plays row outcome shelf
    × AreMet row.wants outcome shelf × AreSame row.series.order.items whole.files shelf.files

-- a run has come as it must for each cut, and one without a fault
pub record HasCome (row : Row) (whole : MemShelfView) : Type 0 where
  pub cuts : All (HasCutRun row whole) row.series.cuts.items
  pub last : HasWholeRun row whole
