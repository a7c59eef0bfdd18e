-- The files of a job: what is left of a shelf where they are written one after the other, and how
-- they stand then.
use Rattle.std.specs.Prelude.{◌≡◌, List, [], ◌∷◌, Option, option_map, ◌⊎◌}
use Rattle.std.specs.List.{All}
use Rattle.std.specs.FinMap.{insert}
use Rattle.desk_io.specs.Reading.{IsWhole}
use Rattle.desk_io.specs.WholeFile.{FailsToWrite, after_writing}
use Rattle.run_outcome.specs.Subject.{Bytes, FileMap, ShelfState}
use Rattle.run_outcome.specs.declared.outcome.Outcome.{Outcome}
use Rattle.run_outcome.specs.declared.outcome.Outcome.TheVariants.{WriteFault}
use Rattle.run_outcome.specs.declared.slot.Slot.{Slot}

-- a file that a job writes: the slot by which reports name it, its name and its text
pub record JobFile : Type 0 where
  pub slot : Slot
  pub name : Bytes
  pub text : Bytes

-- one by its slot, its name and its text
abbrev pub job_file : Slot → (name text : Bytes) → JobFile
job_file slot name text = record { slot = slot; name = name; text = text }

-- these files with one more
abbrev pub with_file : JobFile → Option FileMap → Option FileMap
with_file file files = option_map (λ fs. insert fs file.name file.text) files

-- these files with more of them, one after the other
abbrev pub with_files : List JobFile → Option FileMap → Option FileMap
with_files [] files = files
with_files (file ∷ more) files = with_files more (with_file file files)

-- these files were written and no others, and each stands there with its text
pub record AreWritten (written : List JobFile) (before now : Option FileMap) : Type 0 where
  pub only : now ≡ with_files written before
  pub stand : All (λ file. IsWhole now file.name file.text) written

-- a shelf after these files were written
abbrev pub after_files : List JobFile → ShelfState → ShelfState
after_files [] shelf = shelf
after_files (file ∷ more) shelf = after_files more (after_writing shelf file.name file.text)

-- the files before one were written, and that one, of this slot, was not written whole
abbrev pub FailsAmong : List JobFile → (before now : ShelfState) → Slot → Type 0
FailsAmong [] before now failed = ⊥
FailsAmong (file ∷ files) before now failed =
    ((failed ≡ file.slot) × FailsToWrite before file.name file.text now)
    ⊎ FailsAmong files (after_writing before file.name file.text) now failed

-- all files were written, and this is the outcome of that; or one was not, and the outcome has its
-- slot
abbrev pub WritesFiles : (done : Outcome) → List JobFile → (before now : ShelfState) → Outcome
    → Type 0
WritesFiles done files before now outcome =
    ((outcome ≡ done) × (now ≡ after_files files before))
    ⊎ ((slot : Slot) × FailsAmong files before now slot × (outcome ≡ WriteFault slot))
