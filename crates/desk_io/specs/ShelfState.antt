-- What a shelf tells of itself, and what each of its calls makes of that.
use Rattle.std.specs.Prelude.{◌≡◌, ◌≢◌, ◌≤◌, ◌++◌, [], ℕ, Bool, true, false, length, take, Option, Some, None, option_map}
use Rattle.std.specs.Option.{ForSome}
use Rattle.std.specs.FinMap.{get, insert}
use Rattle.desk_io.specs.Files.{Bytes, FileMap, RisesByOne, with_text}

-- the files and the bytes said, where they are told; whether a file is created, and its name
-- where the files are told; how often the shelf has failed, and whether the last time was in
-- a `say`
pub record ShelfState : Type 0 where
  pub files : Option FileMap
  pub said : Option Bytes
  pub is_created : Bool
  pub created : Option Bytes
  pub faults : ℕ
  pub say_failed : Bool

-- the files with a text more in the one that is created
abbrev pub with_created : Option Bytes → Bytes → FileMap → FileMap
with_created None text files = files
with_created (Some name) text files = with_text name text files

-- an empty file of this name is created
abbrev pub after_create : ShelfState → Bytes → ShelfState
after_create shelf name = record shelf {
  files = option_map (λ files. insert files name []) shelf.files;
  is_created = true;
  created = option_map (λ _. name) shelf.files;
}

-- the created file holds a text more
abbrev pub after_append : ShelfState → Bytes → ShelfState
after_append shelf text =
    record shelf { files = option_map (with_created shelf.created text) shelf.files }

-- no file is created any more
abbrev pub after_finish : ShelfState → ShelfState
after_finish shelf = record shelf { is_created = false; created = None }

-- a text more was said
abbrev pub after_say : ShelfState → Bytes → ShelfState
after_say shelf text = record shelf { said = option_map (λ said. said ++ text) shelf.said }

-- a call failed: the count of faults has gone up by one, it is known whether the call was a `say`,
-- and all else is as in this state
pub record HasFailed (before as_if now : ShelfState) (in_say : Bool) : Type 0 where
  pub files : now.files ≡ as_if.files
  pub said : now.said ≡ as_if.said
  pub is_created : now.is_created ≡ as_if.is_created
  pub created : now.created ≡ as_if.created
  pub risen : RisesByOne before.faults now.faults
  pub say_failed : now.say_failed ≡ in_say

-- a text was being added, and so many bytes at its front were
pub record FailsToAppend (before : ShelfState) (text : Bytes) (now : ShelfState) : Type 0 where
  pub count : ℕ
  pub within : count ≤ length text
  pub failed : HasFailed before (after_append before (take count text)) now false

-- a text was being said, and so many bytes at its front were
pub record FailsToSay (before : ShelfState) (text : Bytes) (now : ShelfState) : Type 0 where
  pub count : ℕ
  pub within : count ≤ length text
  pub failed : HasFailed before (after_say before (take count text)) now true

-- the created file was being ended: it is no longer created
abbrev pub FailsToFinish : ShelfState → ShelfState → Type 0
FailsToFinish before now = HasFailed before (after_finish before) now false

-- the files are the same, but for the one with this name
abbrev pub OthersStay : FileMap → Bytes → Option FileMap → Type 0
OthersStay old name now =
    (new : FileMap) × (now ≡ Some new) × ((q : Bytes) → q ≢ name → get new q ≡ get old q)

-- a file was being created: none is, every other file stays, and no files are told where none were
pub record FailsToCreate (before : ShelfState) (name : Bytes) (now : ShelfState) : Type 0 where
  pub others : ForSome before.files (λ old. OthersStay old name now.files)
  pub untold : before.files ≡ None → now.files ≡ None
  pub said : now.said ≡ before.said
  pub is_created : now.is_created ≡ false
  pub created : now.created ≡ None
  pub risen : RisesByOne before.faults now.faults
  pub say_failed : now.say_failed ≡ false
