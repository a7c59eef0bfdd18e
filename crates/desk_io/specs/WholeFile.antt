-- What the writing of a whole file leaves of a shelf.
use Rattle.std.specs.Prelude.{◌≡◌, ◌⊎◌, ℕ, ◌≤◌, length, take, option_map, false}
use Rattle.std.specs.FinMap.{insert}
use Rattle.desk_io.specs.Files.{Bytes, RisesByOne}
use Rattle.desk_io.specs.ShelfState.{FailsToCreate, ShelfState, after_create, after_finish}

-- a shelf after a file of this name was written, with this text
abbrev pub after_writing : ShelfState → Bytes → Bytes → ShelfState
after_writing shelf name text = after_finish (record (after_create shelf name) {
  files = option_map (λ files. insert files name text) shelf.files;
})

-- a file of this name was being written, and so many bytes at the front of its text were
pub record IsCutShort (before : ShelfState) (name text : Bytes) (now : ShelfState) : Type 0 where
  pub count : ℕ
  pub within : count ≤ length text
  pub files : now.files ≡ option_map (λ files. insert files name (take count text)) before.files
  pub said : now.said ≡ before.said
  pub risen : RisesByOne before.faults now.faults
  pub say_failed : now.say_failed ≡ false

-- a file of this name could not be created, or a front part of its text was written
abbrev pub FailsToWrite : ShelfState → Bytes → Bytes → ShelfState → Type 0
FailsToWrite before name text now =
    FailsToCreate before name now ⊎ IsCutShort before name text now
