-- What a desk tells of itself, and what each of its calls makes of that.
use Rattle.std.specs.Prelude.{◌≡◌, ◌≤◌, [], ℕ, Bool, true, false, length, take, drop, Option, None, option_map, option_and_then}
use Rattle.std.specs.Option.{ForSome}
use Rattle.std.specs.FinMap.{get}
use Rattle.desk_io.specs.Files.{Bytes, FileMap, name_in, RisesByOne}

-- the files, where they are told; whether a file is started and, where the files are told,
-- its name and what is left of it; how often the desk has failed, and the name that the last
-- fault was on, where it is that of a file that is told
pub record DeskState : Type 0 where
  pub files : Option FileMap
  pub is_started : Bool
  pub started : Option Bytes
  pub left : Option Bytes
  pub faults : ℕ
  pub fault_name : Option Bytes

-- the file of this name is started
abbrev pub after_start : DeskState → Bytes → DeskState
after_start desk name = record desk {
  is_started = true;
  started = option_map (λ _. name) desk.files;
  left = option_and_then (λ files. get files name) desk.files;
}

-- so many bytes of the started file were read
abbrev pub after_read : DeskState → ℕ → DeskState
after_read desk n = record desk { left = option_map (drop n) desk.left }

-- the next n bytes of what is left stand at the front of a buffer, and n is 0 only where none is
abbrev pub AreNext : ℕ → Option Bytes → Bytes → Type 0
AreNext n left buffer =
    ForSome left (λ bytes.
    (n ≤ length bytes) × (take n buffer ≡ take n bytes) × (n ≡ 0 → bytes ≡ []))

-- a start failed: nothing is started, and the fault is on the name, where it is that of a file
pub record FailsToStart (before : DeskState) (name : Bytes) (now : DeskState) : Type 0 where
  pub files : now.files ≡ before.files
  pub is_started : now.is_started ≡ false
  pub started : now.started ≡ None
  pub left : now.left ≡ None
  pub risen : RisesByOne before.faults now.faults
  pub fault_name : now.fault_name ≡ option_and_then (name_in name) before.files

-- a read failed: the file stays started with what is left of it, and the fault is on it
pub record FailsToRead (before now : DeskState) : Type 0 where
  pub files : now.files ≡ before.files
  pub is_started : now.is_started ≡ true
  pub started : now.started ≡ before.started
  pub left : now.left ≡ before.left
  pub risen : RisesByOne before.faults now.faults
  pub fault_name : now.fault_name ≡ before.started
