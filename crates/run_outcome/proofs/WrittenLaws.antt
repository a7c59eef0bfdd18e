-- Files that were written one after the other stand with their texts, where their names differ.
use Rattle.std.proofs.Common.{◌≡◌, ◌≢◌, ◌∙◌, Bool, true, false, cond, List, [], ◌∷◌, ◌++◌, Option, Some, None, refl, sym, subst}
use Rattle.std.specs.Prelude.{⊤}
use Rattle.std.specs.List.{All}
use Rattle.std.specs.FinMap.{get, insert, get-insert}
use Rattle.std.specs.Cmp.Lexicographic.{nat_list_cmp_total}
use Rattle.std.proofs.lemmas.List.Elements.{All-cons, All-nil}
use Rattle.desk_io.specs.Files.{Bytes, FileMap}
use Rattle.desk_io.specs.Reading.{IsWhole}
use Rattle.desk_io.proofs.FileLemmas.{get-inserted, same_name, same_name-eq}
use Rattle.list_laws.proofs.Places.{some_is}
use Rattle.run_outcome.specs.Written.{AreWritten, JobFile, with_file, with_files, after_files}
use Rattle.run_outcome.specs.Subject.{ShelfState}
use Rattle.run_outcome.specs.declared.outcome.Outcome.{Outcome}
use Rattle.run_outcome.specs.declared.outcome.Outcome.TheVariants.{WriteFault}
use Rattle.run_outcome.specs.declared.slot.Slot.TheVariants.{Said}
use Rattle.desk_io.specs.WholeFile.{after_writing}

-- ---- one file

-- a file of another name is as it was
pub get-other : (m : FileMap) (k v q : Bytes) → q ≢ k → get (insert m k v) q ≡ get m q
get-other m k v q other = get-insert nat_list_cmp_total m k v q ∙ by-test (same_name q k) refl
  where
    by-test : (b : Bool) → same_name q k ≡ b → cond b (Some v) (get m q) ≡ get m q
    by-test true same = absurd (other (same_name-eq q k same))
    by-test false same = refl

-- a file that was written is there
there : (file : JobFile) (files : Option FileMap) →
    IsWhole (with_file file files) file.name file.text
there file None = λ fs told. cc
there file (Some old) = λ fs told.
    subst (λ (m : FileMap). get m file.name ≡ Some file.text) (some_is told)
    (get-inserted old file.name file.text)

-- one of another name stays
stays : (file : JobFile) (files : Option FileMap) (name text : Bytes) → name ≢ file.name →
    IsWhole files name text → IsWhole (with_file file files) name text
stays file None name text other h = λ fs told. cc
stays file (Some old) name text other h = λ fs told.
    subst (λ (m : FileMap). get m name ≡ Some text) (some_is told)
    (get-other old file.name file.text name other ∙ h old refl)

-- ---- more of them

-- none of these files has the name
abbrev pub NoneHas : Bytes → List JobFile → Type 0
NoneHas name [] = ⊤
NoneHas name (file ∷ more) = (name ≢ file.name) × NoneHas name more

-- no two of these files have one name
abbrev pub AreApart : List JobFile → Type 0
AreApart [] = ⊤
AreApart (file ∷ more) = NoneHas file.name more × AreApart more

stays-behind : (more : List JobFile) (files : Option FileMap) (name text : Bytes) →
    NoneHas name more → IsWhole files name text → IsWhole (with_files more files) name text
stays-behind [] files name text none h = h
stays-behind (file ∷ more) files name text none h =
    stays-behind more (with_file file files) name text none.1
    (stays file files name text none.0 h)

-- each of these files stands with its text
abbrev pub Stand : Option FileMap → List JobFile → Type 0
Stand files [] = ⊤
Stand files (file ∷ more) = IsWhole files file.name file.text × Stand files more

pub written-stand : (written : List JobFile) (files : Option FileMap) → AreApart written →
    Stand (with_files written files) written
written-stand [] files apart = tt
written-stand (file ∷ more) files apart = (
  stays-behind more (with_file file files) file.name file.text apart.0 (there file files),
  written-stand more (with_file file files) apart.1,
)

pub all-stand : (written : List JobFile) (files : Option FileMap) → Stand files written →
    All (λ file. IsWhole files file.name file.text) written
all-stand [] files each = All-nil (λ file. IsWhole files file.name file.text)
all-stand (file ∷ more) files each =
    All-cons (λ one. IsWhole files one.name one.text) file more each.0
    (all-stand more files each.1)

-- files whose names differ were written
pub are-written : (written : List JobFile) (before now : Option FileMap) →
    now ≡ with_files written before → AreApart written → AreWritten written before now
are-written written before now only apart = record {
  only = only;
  stand = subst (λ (files : Option FileMap).
      All (λ file. IsWhole files file.name file.text) written) (sym only)
      (all-stand written (with_files written before) (written-stand written before apart));
}

-- files behind others
pub with_files-append : (xs ys : List JobFile) (files : Option FileMap) →
    with_files (xs ++ ys) files ≡ with_files ys (with_files xs files)
with_files-append [] ys files = refl
with_files-append (x ∷ xs) ys files = with_files-append xs ys (with_file x files)

-- no fault of what is said
abbrev pub IsHeard : Outcome → Type 0
IsHeard (WriteFault Said) = ⊥
IsHeard outcome = Unit {0}

-- none of these files is what is said
abbrev pub AreHeard : List JobFile → Type 0
AreHeard [] = Unit {0}
AreHeard (file ∷ files) = IsHeard (WriteFault file.slot) × AreHeard files

-- files that were written stand behind those before
pub files-after : (files : List JobFile) (before : ShelfState) →
    (after_files files before).files ≡ with_files files before.files
files-after [] before = refl
files-after (file ∷ more) before =
    files-after more (after_writing before file.name file.text)

-- and the shelf has not failed meanwhile
pub faults-after : (files : List JobFile) (before : ShelfState) →
    (after_files files before).faults ≡ before.faults
faults-after [] before = refl
faults-after (file ∷ more) before =
    faults-after more (after_writing before file.name file.text)
