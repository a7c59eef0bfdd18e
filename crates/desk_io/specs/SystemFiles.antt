-- What the adapters over files of the system are to contracts. What those files hold is not told.
use Rattle.std.specs.Prelude.{ℕ, Bool, None, Option}
use Rattle.std.specs.declared.io.ErrorKind.{ErrorKind}
use Rattle.desk_io.specs.DeskState.{DeskState}
use Rattle.desk_io.specs.ShelfState.{ShelfState}

-- whether a file is started, how often the desk has failed, and what kind of error the system gave
-- last
pub record FileDeskView : Type 0 where
  pub is_started : Bool
  pub faults : ℕ
  pub last_error : Option ErrorKind

-- what the desk tells
abbrev pub file_desk_state : FileDeskView → DeskState
file_desk_state desk = record {
  files = None;
  is_started = desk.is_started;
  started = None;
  left = None;
  faults = desk.faults;
  fault_name = None;
}

-- whether a file is created, how often the shelf has failed, whether the last time was in a `say`,
-- and what kind of error the system gave last on a file and in a `say`
pub record FileShelfView : Type 0 where
  pub is_created : Bool
  pub faults : ℕ
  pub say_failed : Bool
  pub file_error : Option ErrorKind
  pub say_error : Option ErrorKind

-- what the shelf tells
abbrev pub file_shelf_state : FileShelfView → ShelfState
file_shelf_state shelf = record {
  files = None;
  said = None;
  is_created = shelf.is_created;
  created = None;
  faults = shelf.faults;
  say_failed = shelf.say_failed;
}
