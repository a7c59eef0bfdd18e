-- The outcomes of runs: what work comes to by where it ended or stopped, the exit status and the
-- report line; the files that commands read and write, by number and by word.
use Rattle.std.specs.Prelude.{ℕ, List, codes, ◌++◌, decimal, ◌≡◌, ◌+◌, None, Option, Some, Result, Ok, Err, ◌⊎◌}
use Rattle.fpga_problem.specs.Files.{AreUnread}
use Rattle.fpga_problem.specs.declared.text_file.TextFile.TheVariants.{Architecture, Netlist, Placement, Route}
use Rattle.fpga_problem.specs.declared.source.TheConstants.{TEXT_BYTES}
use Rattle.fpga_problem.specs.declared.unread.FileFault.TheVariants.{Desk, Text, TooLong}
use Rattle.fpga_problem.specs.declared.unread.Unread.{Unread}
use Rattle.fpga_text.specs.declared.fault.TextFault.TheVariants.{Bad, Limit as PastLimit, Memory as NoMemory}
use Rattle.route_sweep.specs.Slots.{slot_number}
use Rattle.route_sweep.specs.declared.found.Climbed.{Climbed}
use Rattle.route_sweep.specs.declared.found.Climbed.TheVariants.{Routed as IsLeast, Unroutable as HasNone, Undecided as IsOpen}
use Rattle.route_sweep.specs.declared.found.Found.{Found}
use Rattle.route_sweep.specs.declared.found.Found.TheVariants.{Routed as IsRouted, Refuted, Spent}
use Rattle.route_sweep.specs.declared.found.Stop.{Stop}
use Rattle.route_sweep.specs.declared.found.Stop.TheVariants.{Fault, TooManyClauses, TooManyHeld, Memory}
use Rattle.run_outcome.specs.Subject.{FileMap, FileNames, Source, FileFault, FailsToSay, ShelfState, after_say}
use Rattle.run_outcome.specs.declared.outcome.Outcome.{Outcome}
use Rattle.run_outcome.specs.declared.outcome.Outcome.TheVariants.{Routed, Unroutable, Undecided, Bound, Done, Accepted, NotAccepted, NotModel, LegalRoute, NotLegal, InputFault, Limit, NotSymmetric, Usage, ReadFault, WriteFault, OutOfMemory, Unfound, NoWay, Narrowed, Beyond}
use Rattle.run_outcome.specs.declared.slot.Slot.{Slot}
use Rattle.run_outcome.specs.declared.slot.Slot.TheVariants.{Said, File, Architecture, Netlist, Placement, GlobalRoute}
use Rattle.run_outcome.specs.SizeCauses.{size_code}
use Rattle.run_outcome.specs.declared.size_cause.SizeCause.TheVariants.{ClausesOfTurns, FileBytes, FormulaClauses}
use Rattle.run_outcome.specs.declared.text_file.TheConstants.{PROOF_BYTES}
use Rattle.run_outcome.specs.declared.text_file.TextFile.{TextFile}
use Rattle.run_outcome.specs.declared.text_file.TextFile.TheVariants.{Cnf, Lrat, Model, Problem, Routed}

-- how many bytes a file may have
abbrev pub byte_limit : TextFile → ℕ
byte_limit Cnf = PROOF_BYTES
byte_limit Lrat = PROOF_BYTES
byte_limit Model = PROOF_BYTES
byte_limit file = TEXT_BYTES

-- the word for a file in a report
abbrev pub file_word : TextFile → List ℕ
file_word (Problem Architecture) = codes "architecture"
file_word (Problem Netlist) = codes "netlist"
file_word (Problem Placement) = codes "placement"
file_word (Problem Route) = codes "route"
file_word Cnf = codes "cnf"
file_word Lrat = codes "lrat"
file_word Routed = codes "routed"
file_word Model = codes "model"

-- the number by which reports name it
abbrev pub number_of : Slot → ℕ
number_of Said = 0
number_of (File slot) = slot_number slot
number_of Architecture = 4
number_of Netlist = 5
number_of Placement = 6
number_of GlobalRoute = 7

-- the exit status
abbrev pub status_of : Outcome → ℕ
status_of (Routed width) = 0
status_of (Unroutable width) = 1
status_of (Undecided width learned) = 2
status_of (Bound tracks cells nets) = 0
status_of (Unfound width rounds stopped) = 2
status_of (NoWay width) = 1
status_of (Narrowed tracks width cut) = 0
status_of (Beyond tracks cells nets) = 1
status_of Done = 0
status_of Accepted = 0
status_of (NotAccepted step cause) = 1
status_of (NotModel clause) = 1
status_of LegalRoute = 0
status_of (NotLegal line cause) = 1
status_of (InputFault file line code) = 3
status_of (Limit file code count) = 3
status_of (NotSymmetric width why) = 3
status_of (Usage code) = 4
status_of (ReadFault file) = 5
status_of (WriteFault slot) = 6
status_of OutOfMemory = 7

-- the report line
abbrev pub report_of : Outcome → List ℕ
report_of (Routed width) = codes "routed " ++ decimal width
report_of (Unroutable width) = codes "unroutable " ++ decimal width
report_of (Undecided width learned) =
    codes "undecided " ++ decimal width ++ codes " after " ++ decimal learned
    ++ codes " learned clauses"
report_of (Bound tracks cells nets) = codes "bound " ++ decimal tracks
report_of (Unfound width rounds stopped) =
    codes "undecided " ++ decimal width ++ codes " after " ++ decimal rounds ++ codes " rounds"
report_of (NoWay width) = codes "no way " ++ decimal width
report_of (Narrowed tracks width cut) = codes "routed " ++ decimal width
report_of (Beyond tracks cells nets) = codes "bound " ++ decimal tracks
report_of Done = codes "done"
report_of Accepted = codes "accepted"
report_of (NotAccepted step cause) =
    codes "not accepted: step " ++ decimal step ++ codes " cause " ++ decimal cause
report_of (NotModel clause) = codes "not a model: clause " ++ decimal clause
report_of LegalRoute = codes "legal"
report_of (NotLegal line cause) =
    codes "not legal: line " ++ decimal line ++ codes " cause " ++ decimal cause
report_of (InputFault file line code) =
    codes "fault: " ++ file_word file ++ codes " line " ++ decimal line ++ codes " code "
    ++ decimal code
report_of (Limit file code count) = codes "limit: code " ++ decimal code ++ codes " count "
    ++ decimal count
report_of (NotSymmetric width why) = codes "not symmetric " ++ decimal width
report_of (Usage code) = codes "usage: code " ++ decimal code
report_of (ReadFault file) = codes "read fault: " ++ file_word file
report_of (WriteFault slot) = codes "write fault: slot " ++ decimal (number_of slot)
report_of OutOfMemory = codes "out of memory"

-- the report line with its newline
abbrev pub line_of : Outcome → List ℕ
line_of outcome = report_of outcome ++ codes "\n"

-- what a run comes to whose report line was not said: it has failed to write, unless it had already
abbrev pub unsaid : Outcome → Outcome
unsaid (WriteFault slot) = WriteFault slot
unsaid outcome = WriteFault Said

-- the desk has failed
abbrev pub IsReadFault : Outcome → Type 0
IsReadFault (ReadFault file) = Unit {0}
IsReadFault outcome = ⊥

-- where a file gives no value
abbrev pub unread_outcome : TextFile → FileFault → Outcome
unread_outcome file Desk = ReadFault file
unread_outcome file TooLong =
    Limit (Some file) (size_code (FileBytes file)) (byte_limit file + 1)
unread_outcome file (Text (Bad line code)) = InputFault file line code
unread_outcome file (Text (PastLimit code count)) = Limit (Some file) code count
unread_outcome file (Text NoMemory) = OutOfMemory

-- the four files give no problem, and the outcome says why: the work stops at a file, those before
-- it read; or all four read, but do not fit
abbrev pub GivesNone : (Source → FileFault → Type 0) → Option FileMap → FileNames → Outcome → Type 0
GivesNone stops files names outcome =
    (unread : Unread) × AreUnread stops files names unread
    × (outcome ≡ unread_outcome (Problem unread.file) unread.fault)

-- where the work on the clauses of a problem stopped
abbrev pub stop_outcome : Stop → Outcome
stop_outcome (Fault slot) = WriteFault (File slot)
stop_outcome (TooManyClauses count) = Limit None (size_code FormulaClauses) count
stop_outcome (TooManyHeld count) = Limit None (size_code ClausesOfTurns) count
stop_outcome Memory = OutOfMemory

-- where a search at a width ended, or stopped
abbrev pub found_outcome : (width : ℕ) → Result Found Stop → Outcome
found_outcome width (Ok IsRouted) = Routed width
found_outcome width (Ok (Refuted lead)) = Unroutable width
found_outcome width (Ok (Spent learned)) = Undecided width learned
found_outcome width (Err stop) = stop_outcome stop

-- where a climb through the widths ended, or stopped
abbrev pub climbed_outcome : Result Climbed Stop → Outcome
climbed_outcome (Ok (IsLeast width)) = Routed width
climbed_outcome (Ok (HasNone width)) = Unroutable width
climbed_outcome (Ok (IsOpen width learned)) = Undecided width learned
climbed_outcome (Err stop) = stop_outcome stop

-- where what was asked for was written, or not
abbrev pub written_outcome : {Written : Type 0} → Result Written Stop → Outcome
written_outcome (Ok written) = Done
written_outcome (Err stop) = stop_outcome stop

-- the report line was said; or a front part of it was, and then the run has failed to write
abbrev pub Reports : (before : ShelfState) → Outcome → (now : ShelfState) → Outcome → Type 0
Reports before outcome now answer =
    ((answer ≡ outcome) × (now ≡ after_say before (line_of outcome)))
    ⊎ ((answer ≡ unsaid outcome) × FailsToSay before (line_of outcome) now)

-- memory ran out, and nothing was said
abbrev pub IsShort : (before now : ShelfState) → Outcome → Type 0
IsShort before now outcome = (outcome ≡ OutOfMemory) × (now ≡ before)
