-- What must come of a run, and when it has come.
use Rattle.std.specs.Prelude.{◌≡◌, ◌++◌, Bool, true, Option, Some, None, All, if◌then◌else◌, nat_eq, nat_lt, option_map, string_bytes}
use Rattle.std.specs.List.{starts_with}
use Rattle.std.specs.FinMap.{get}
use Rattle.desk_io.specs.Files.{Bytes, FileMap}
use Rattle.desk_io.specs.Memory.{MemShelfView}
use Rattle.rows.specs.Parts.{places_of}
use Rattle.rows.specs.declared.cases.compare.Wanted.{Wanted}
use Rattle.rows.specs.declared.cases.compare.Wanted.TheVariants.{Whole, Begins, Holds, Counts, Lacks}
use Rattle.rows.specs.declared.cases.compare.WantedFile.{WantedFile}
use Rattle.rows.specs.declared.cases.compare.Wants.{Wants}
use Rattle.run_outcome.specs.Report.{line_of, report_of, status_of}
use Rattle.run_outcome.specs.declared.outcome.Outcome.{Outcome}

-- what is to be said: these bytes, and the report line behind them unless that is not to be said
abbrev pub said_of : (lead : Bytes) → (is_silent : Bool) → (line : Bytes) → Bytes
said_of lead is_silent line = if is_silent then lead else lead ++ line

-- a file, where there is one, is as it must be
abbrev pub IsMet : Wanted → (text : Bytes) → (came : Option Bytes) → Type 0
IsMet Whole text came = came ≡ Some text
IsMet Begins text came = option_map (λ whole. starts_with nat_eq whole text) came ≡ Some true
IsMet Holds text came = option_map (λ whole. nat_lt 0 (places_of text whole)) came ≡ Some true
IsMet (Counts count) text came = option_map (places_of text) came ≡ Some count
IsMet Lacks text came = came ≡ None

-- among these files is the one that must be, or is not the one that must not
abbrev pub IsMetBy : FileMap → WantedFile → Type 0
IsMetBy files file = IsMet file.how file.text.items (get files (string_bytes file.name))

-- the outcome, its status, what was said and the files are as they must be
pub record AreMet (wants : Wants) (outcome : Outcome) (shelf : MemShelfView) : Type 0 where
  pub outcome_line : option_map string_bytes wants.outcome ≡ Some (report_of outcome)
  pub status : wants.status ≡ Some (status_of outcome)
  pub said : shelf.said ≡ said_of wants.lead.items wants.is_silent (line_of outcome)
  pub files : All (IsMetBy shelf.files) wants.files.items
