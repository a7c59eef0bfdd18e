-- What has changed of the files, where they are told.
use Rattle.std.specs.Prelude.{◌≡◌, Option, None, option_and_then}
use Rattle.std.specs.Option.{ForSome}
use Rattle.std.specs.FinMap.{get}
use Rattle.desk_io.specs.Files.{Bytes, FileMap}
use Rattle.desk_io.specs.ShelfState.{OthersStay}

-- what the file of this name holds, where the files are told and it is there
abbrev pub held : Option FileMap → Bytes → Option Bytes
held files name = option_and_then (λ fs. get fs name) files

-- no file but the one of this name has changed, and files are told as they were
pub record OnlyChanges (name : Bytes) (before now : Option FileMap) : Type 0 where
  pub others : ForSome before (λ old. OthersStay old name now)
  pub untold : before ≡ None → now ≡ None
