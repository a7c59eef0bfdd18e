-- Files that are read whole and then taken apart: what the text of one says, and what keeps it from
-- saying that.
use Rattle.std.specs.Prelude.{◌≡◌, ◌<◌, ◌≤◌, ℕ, ⊤, [], length, Option, Some, Result, MatchResult}
use Rattle.std.specs.FinMap.{get}
use Rattle.std.specs.Option.{ForSome}
use Rattle.std.specs.Result.{IsErrAnd}
use Rattle.desk_io.specs.DeskState.{DeskState}
use Rattle.desk_io.specs.Files.{Bytes, FileMap, RisesByOne}
use Rattle.desk_io.specs.Reading.{FaultIsOn, IsWhole}
use Rattle.fpga_problem.specs.declared.source.TheConstants.{TEXT_BYTES}
use Rattle.fpga_problem.specs.declared.unread.FileFault.{FileFault}
use Rattle.fpga_problem.specs.declared.unread.FileFault.TheVariants.{Desk, TooLong, Text}
use Rattle.fpga_route.specs.Codes.{route_faults}
use Rattle.fpga_text.specs.FirstFault.{Faults, IsFaultless, IsFirst}
use Rattle.fpga_text.specs.declared.fault.TextFault.{TextFault}
use Rattle.fpga_text.specs.declared.fault.TextFault.TheVariants.{Memory}

-- a text in a file: the name of that, how many bytes it may have, and the faults of its bytes
pub record Source : Type 0 where
  pub name : Bytes
  pub limit : ℕ
  pub faults : Bytes → Faults

-- a file of which any text is taken
abbrev pub any_text : Bytes → (limit : ℕ) → Source
any_text name limit = record { name = name; limit = limit; faults = λ text. [] }

-- a route
abbrev pub route_source : Bytes → Source
route_source name = record { name = name; limit = TEXT_BYTES; faults = route_faults }

-- the text is within its limit and has no fault, and says this value
pub record Says
    {T : Type 0} (files : Option FileMap) (source : Source) (value : Bytes → T) (said : T)
    : Type 0 where
  pub text : Bytes
  pub there : IsWhole files source.name text
  pub short : length text ≤ source.limit
  pub faultless : IsFaultless (source.faults text)
  pub says : said ≡ value text

-- where the files are told, the one with this name has more bytes than these
abbrev pub IsLonger : Option FileMap → Bytes → ℕ → Type 0
IsLonger files name limit =
    ForSome files (λ fs. (text : Bytes) × (get fs name ≡ Some text) × (limit < length text))

-- the text is within its limit, and this is its first fault
pub record HasFault (files : Option FileMap) (source : Source) (fault : TextFault)
    : Type 0 where
  pub text : Bytes
  pub there : IsWhole files source.name text
  pub short : length text ≤ source.limit
  pub first : IsFirst (source.faults text) fault

-- the desk failed on the file with this name
pub record FailsToRead (before now : DeskState) (name : Bytes) : Type 0 where
  pub risen : RisesByOne before.faults now.faults
  pub on : FaultIsOn before.files name now.fault_name

-- by what the files hold the text says no value: it is longer than it may be, or has a fault
abbrev pub IsHalted : Option FileMap → Source → FileFault → Type 0
IsHalted files source Desk = ⊥
IsHalted files source TooLong = IsLonger files source.name source.limit
IsHalted files source (Text fault) = HasFault files source fault

-- the text was not read or not taken apart: the desk failed, memory ran out, or it says no value
abbrev pub IsStopped : (before now : DeskState) → Source → FileFault → Type 0
IsStopped before now source Desk = FailsToRead before now source.name
IsStopped before now source (Text Memory) = ⊤
IsStopped before now source fault = IsHalted before.files source fault

-- the desk has failed
abbrev pub IsDeskFault : FileFault → Type 0
IsDeskFault Desk = ⊤
IsDeskFault _ = ⊥

-- a reading of a text gives a value of which this is true, or stops; the files stay, and unless the
-- desk has failed its count of faults is as it was
pub record ReadsTo
    {T : Type 0} (before now : DeskState) (source : Source) (says : T → Type 0)
    (result : Result T FileFault) : Type 0 where
  pub answers : MatchResult result says (IsStopped before now source)
  pub files : now.files ≡ before.files
  pub quiet : ¬ IsErrAnd result IsDeskFault → now.faults ≡ before.faults

-- the reading of a text stops, and this is told of it
pub record StopsAt
    {R : Type 0} (stops : Source → FileFault → Type 0) (source : Source) (told : FileFault → R)
    (r : R) : Type 0 where
  pub fault : FileFault
  pub because : stops source fault
  pub tells : r ≡ told fault

-- the reading of a text stops, and this is told of it; or it says a value, and the rest of the work
-- comes to this
pub data ReadsThen
    {T R : Type 0} (stops : Source → FileFault → Type 0) (files : Option FileMap)
    (source : Source) (told : FileFault → R) (value : Bytes → T) (rest : T → R → Type 0) (r : R)
    : Type 0 where
  Stops : StopsAt stops source told r → ReadsThen stops files source told value rest r
  Reads : (said : T) → Says files source value said → rest said r
      → ReadsThen stops files source told value rest r
