-- What must come of a run in which a call fails, and when it has come.
use Rattle.std.specs.Prelude.{◌≡◌, ◌+◌, ◌<◌, ◌≤◌, ◌++◌, ℕ, ⊤, true, List, [], All, Option, Some, None, String, drop, length, nat_eq, slice_get, string_bytes, take}
use Rattle.std.specs.Global.{Global}
use Rattle.std.specs.List.{starts_with}
use Rattle.std.specs.Option.{ForSome}
use Rattle.std.specs.FinMap.{get}
use Rattle.desk_io.specs.Files.{Bytes, FileMap}
use Rattle.desk_io.specs.Memory.{MemShelfView}
use Rattle.rows.specs.declared.cases.cut.Cut.{Cut}
use Rattle.rows.specs.declared.cases.cut.Heard.{Heard}
use Rattle.rows.specs.declared.cases.cut.Heard.TheVariants.{Both, Lead, Report, Nothing}
use Rattle.rows.specs.declared.cases.cut.Left.{Left}
use Rattle.rows.specs.declared.cases.cut.Left.TheVariants.{Gone, First}
use Rattle.run_outcome.specs.Report.{line_of, report_of, status_of}
use Rattle.run_outcome.specs.declared.outcome.Outcome.{Outcome}

-- what is to be said, of these bytes and the report line
abbrev pub heard_of : Heard → (lead line : Bytes) → Bytes
heard_of Both lead line = lead ++ line
heard_of Lead lead line = lead
heard_of Report lead line = line
heard_of Nothing lead line = []

-- these files are as another run has left them
abbrev pub AreSame : List (String Global) → (whole files : FileMap) → Type 0
AreSame names whole files =
    All (λ name. get files (string_bytes name) ≡ get whole (string_bytes name)) names

-- a file is not there, or holds a front part of what it holds in another run
abbrev pub IsFront : (whole came : Option Bytes) → Type 0
IsFront whole None = ⊤
IsFront None (Some came) = ⊥
IsFront (Some whole) (Some came) = starts_with nat_eq whole came ≡ true

-- these files are not there
abbrev pub AreGone : List (String Global) → FileMap → Type 0
AreGone names files = All (λ name. get files (string_bytes name) ≡ None) names

-- so many of these files are whole, the next one is a front part, and later ones are not there
pub record IsCutAt (count : ℕ) (names : List (String Global)) (whole files : FileMap)
    : Type 0 where
  pub before : AreSame (take count names) whole files
  pub front : ForSome (slice_get names count)
      (λ name. IsFront (get whole (string_bytes name)) (get files (string_bytes name)))
  pub later : AreGone (drop (count + 1) names) files

-- the files are left as they must be, named in the order in which they are written
abbrev pub AreLeft : Left → List (String Global) → (whole files : FileMap) → Type 0
AreLeft Gone names whole files = AreGone names files
AreLeft (First count) names whole files =
    (length names ≤ count → AreSame names whole files)
    × (count < length names → IsCutAt count names whole files)

-- the outcome, its status, what was said and the files are as they must be
pub record IsAsCut
    (cut : Cut) (lead : Bytes) (order : List (String Global)) (whole : MemShelfView)
    (outcome : Outcome) (shelf : MemShelfView) : Type 0 where
  pub outcome_line : string_bytes cut.outcome ≡ report_of outcome
  pub status : cut.status ≡ status_of outcome
  pub said : shelf.said ≡ heard_of cut.heard lead (line_of outcome)
  pub files : AreLeft cut.left order whole.files shelf.files
