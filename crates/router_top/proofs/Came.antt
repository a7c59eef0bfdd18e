-- What the work of a run has come to, whatever its words ask for. The laws on runs go by these five
-- kinds; which of them a job comes to is said in one place.
use Rattle.std.specs.Prelude.{◌⊎◌}
use Rattle.std.proofs.Common.{◌≡◌, ℕ, ◌≤◌, List, [], ◌∷◌, ◌++◌, length, take, Result}
use Rattle.desk_io.specs.Files.{HasRisen}
use Rattle.fpga_types.specs.Given.{IsGiven}
use Rattle.fpga_types.specs.declared.limits.TheConstants.{WIDTH_LIMIT}
use Rattle.route_sweep.specs.Climb.{IsRefuted}
use Rattle.route_sweep.specs.declared.found.Found.{Found}
use Rattle.route_sweep.specs.declared.found.Stop.{Stop}
use Rattle.route_ways.specs.Way.{copies_by}
use Rattle.router_top.specs.Comes.{ComesTo, lower_files}
use Rattle.run_outcome.specs.Written.{WritesFiles, AreWritten, JobFile, with_files}
use Rattle.router_top.specs.JobFiles.{AreFilesOf, IsClimb, LeavesWhole, TakesTurns}
use Rattle.router_top.specs.Means.{Means}
use Rattle.run_outcome.specs.Report.{found_outcome}
use Rattle.run_outcome.specs.Scene.{Scene}
use Rattle.router_top.specs.Saying.{HasNoLead, IsLead, Leads, more_said}
use Rattle.router_top.specs.Search.{proof_files, route_file}
use Rattle.router_top.specs.Truth.{IsTrueOf, IsTrueOfSearch}
use Rattle.router_top.specs.Work.{Finds}
use Rattle.run_outcome.specs.Subject.{Bytes, ShelfState, RouteText, Step, Word}
use Rattle.run_outcome.specs.declared.outcome.Outcome.{Outcome}
use Rattle.run_outcome.specs.declared.outcome.Outcome.TheVariants.{Bound, Done, Unroutable, WriteFault, OutOfMemory, Routed, Narrowed, Beyond, Unfound, NoWay, NotLegal}
use Rattle.run_outcome.specs.declared.slot.Slot.TheVariants.{Said}
use Rattle.run_outcome.proofs.WrittenLaws.{AreApart, AreHeard}

-- no fault of the shelf, no width that is unroutable, no file that is not legal, and nothing that a
-- cut or a search for a route of a placement tells
abbrev pub IsSpared : Outcome → Type 0
IsSpared (WriteFault slot) = ⊥
IsSpared (Unroutable width) = ⊥
IsSpared (Bound tracks cells nets) = ⊥
IsSpared (Narrowed tracks width cut) = ⊥
IsSpared (Beyond tracks cells nets) = ⊥
IsSpared (Unfound width rounds stopped) = ⊥
IsSpared (NoWay width) = ⊥
IsSpared (NotLegal line cause) = ⊥
IsSpared outcome = Unit {0}

-- after it no file need have been written
abbrev pub NeedsNoFile : Outcome → Type 0
NeedsNoFile (WriteFault slot) = ⊥
NeedsNoFile (Unroutable width) = ⊥
NeedsNoFile outcome = Unit {0}

-- something kept the run from its work, or it judged a file: nothing was written
pub record IsIdle (words : List Word) (at : Scene) (o : Outcome) : Type 0 where
  pub same : at.shelf_now ≡ at.shelf
  pub spared : IsSpared o
  pub leads : HasNoLead words o
  pub means : Means words at.desk.files at.shelf.files at.shelf_now.files o
  pub told : ¬ HasRisen at.desk.faults at.desk_now.faults
      → IsTrueOf words at.desk.files o ⊎ (o ≡ OutOfMemory)

-- the problem was given; a search came to a width with the files of lower ones alone, all names
-- differ, and this was found there, which is the outcome; only at the last width is that a
-- refutation
pub record HasCome (words : List Word) (at : Scene) (o : Outcome) : Type 0 where
  pub width : ℕ
  pub comes : ComesTo words at.desk.files width
  pub given : IsGiven comes.p
  pub narrow : width ≤ WIDTH_LIMIT
  pub between : ShelfState
  pub lower : between.files ≡ with_files (lower_files comes) at.shelf.files
  pub calm : between.faults ≡ at.shelf.faults
  pub climbs : (between.files ≡ at.shelf.files)
      ⊎ (IsClimb words × ((copies_by comes.search.way ≡ 1) ⊎ TakesTurns words))
  pub route_apart : (found : RouteText)
      → AreApart (lower_files comes ++ route_file comes.search found ∷ [])
  pub proof_apart : (log : List Step)
      → AreApart (lower_files comes ++ proof_files comes.search comes.p width log)
  pub came : Result Found Stop
  pub finds : Finds comes.search comes.p width between at.shelf_now came
  pub last : IsRefuted came → width ≡ comes.search.last
  pub is : o ≡ found_outcome width came
  pub told : (outcome : Outcome) → IsTrueOfSearch comes.search comes.p outcome
      → IsTrueOf words at.desk.files outcome

-- a scene that ends with this shelf
abbrev pub ended_with : ShelfState → Scene → Scene
ended_with shelf at = record at { shelf_now = shelf }

-- a search left its files so, and beside them a lead was said
pub record HasSearched (words : List Word) (at : Scene) (o : Outcome) : Type 0 where
  pub wrote : ShelfState
  pub come : HasCome words (ended_with wrote at) o
  pub files : at.shelf_now.files ≡ wrote.files
  pub faults : at.shelf_now.faults ≡ wrote.faults
  pub lead : Bytes
  pub leads : Leads words at.desk.files at.shelf.files at.shelf_now.files o lead
  pub said : at.shelf_now.said ≡ more_said at.shelf.said lead

-- what a run comes to that has written all its files
abbrev pub IsDone : Outcome → Type 0
IsDone Done = Unit {0}
IsDone (Routed width) = Unit {0}
IsDone (Narrowed tracks width cut) = Unit {0}
IsDone outcome = ⊥

-- once a lead was said, if there was one, files were written one after the other, or not all of them
pub record HasWritten (words : List Word) (at : Scene) (o : Outcome) : Type 0 where
  pub done : Outcome
  pub is_done : IsDone done
  pub files : List JobFile
  pub of : AreFilesOf words at.desk.files files
  pub apart : AreApart files
  pub heard : AreHeard files
  pub between : ShelfState
  pub begun : between.files ≡ at.shelf.files
  pub calm : between.faults ≡ at.shelf.faults
  pub lead : Bytes
  pub said : between.said ≡ more_said at.shelf.said lead
  pub writes : WritesFiles done files between at.shelf_now o
  pub leads : Leads words at.desk.files at.shelf.files at.shelf_now.files o lead
  pub means : o ≡ done → AreWritten files at.shelf.files at.shelf_now.files
      → Means words at.desk.files at.shelf.files at.shelf_now.files done
  pub told : IsTrueOf words at.desk.files done

-- the lead was cut, and what the work has come to by then stands whole
pub record IsCut (words : List Word) (at : Scene) (o : Outcome) : Type 0 where
  pub is : o ≡ WriteFault Said
  pub whole : LeavesWhole words at.desk.files at.shelf.files at.shelf_now.files
  pub risen : HasRisen at.shelf.faults at.shelf_now.faults
  pub outcome : Outcome
  pub lead : Bytes
  pub leads : IsLead words at.desk.files at.shelf.files at.shelf_now.files outcome lead
  pub count : ℕ
  pub within : count ≤ length lead
  pub said : at.shelf_now.said ≡ more_said at.shelf.said (take count lead)

-- a cut was found, a routed file is not legal, or no route was found: what there is to say before the
-- outcome was said, and no file was written
pub record HasTold (words : List Word) (at : Scene) (o : Outcome) : Type 0 where
  pub fileless : NeedsNoFile o
  pub files : at.shelf_now.files ≡ at.shelf.files
  pub faults : at.shelf_now.faults ≡ at.shelf.faults
  pub lead : Bytes
  pub leads : Leads words at.desk.files at.shelf.files at.shelf_now.files o lead
  pub said : at.shelf_now.said ≡ more_said at.shelf.said lead
  pub means : Means words at.desk.files at.shelf.files at.shelf_now.files o
  pub told : IsTrueOf words at.desk.files o ⊎ (o ≡ OutOfMemory)

-- one of these
pub data Came (words : List Word) (at : Scene) (o : Outcome) : Type 0 where
  Idle : IsIdle words at o → Came words at o
  Searched : HasSearched words at o → Came words at o
  Wrote : HasWritten words at o → Came words at o
  Told : HasTold words at o → Came words at o
  Cut : IsCut words at o → Came words at o
