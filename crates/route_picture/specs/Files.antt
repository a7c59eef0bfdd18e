-- What is read of the files that the words name, or why it is not.
use Rattle.std.specs.Prelude.{◌≡◌, ◌≤◌, ℕ, ⊤, length, Option, Some, None, option_map}
use Rattle.desk_io.specs.DeskState.{DeskState}
use Rattle.desk_io.specs.Files.{FileMap, RisesByOne}
use Rattle.desk_io.specs.Reading.{FaultIsOn, HasTakenOneMore, IsWhole}
use Rattle.fpga_problem.specs.declared.text_file.TextFile.TheVariants.{Architecture, Netlist, Placement, Route}
use Rattle.fpga_text.specs.Bytes.{Bytes}
use Rattle.fpga_types.specs.Texts.{Texts}
use Rattle.route_picture.specs.Words.{Asked, RoutedAsked}
use Rattle.route_picture.specs.declared.given_file.GivenFile.{GivenFile}
use Rattle.route_picture.specs.declared.given_file.GivenFile.TheVariants.{Text, Names, Routed}
use Rattle.route_picture.specs.declared.stop.Stop.{Stop}
use Rattle.route_picture.specs.declared.stop.Stop.TheVariants.{TooLong, Unread, Memory}

-- the name that the words give for a file, if they give one
abbrev pub name_of : Asked → GivenFile → Option Bytes
name_of ask (Text Architecture) = Some ask.arch
name_of ask (Text Netlist) = Some ask.net
name_of ask (Text Placement) = Some ask.place
name_of ask (Text Route) = Some ask.route
name_of ask Names = ask.names
name_of ask Routed = option_map (λ (r : RoutedAsked). r.file) ask.routed

-- the bytes of the four files, and those of the file of names and of the file with a routing, if
-- they are asked for
pub record GivenTexts : Type 0 where
  pub four : Texts
  pub names : Option Bytes
  pub routed : Option Bytes

-- these are the bytes of the file with this name, and no more than the limit
pub record IsText (files : Option FileMap) (name : Bytes) (limit : ℕ) (bytes : Bytes) :
    Type 0 where
  pub whole : IsWhole files name bytes
  pub short : length bytes ≤ limit

-- the same of a file that may be not asked for
abbrev pub IsTextIf : Option FileMap → Option Bytes → (limit : ℕ) → Option Bytes → Type 0
IsTextIf files None limit bytes = bytes ≡ None
IsTextIf files (Some name) limit None = ⊥
IsTextIf files (Some name) limit (Some bytes) = IsText files name limit bytes

-- these are the bytes of the files that the words name
pub record AreTexts (ask : Asked) (limit : ℕ) (files : Option FileMap) (texts : GivenTexts) :
    Type 0 where
  pub architecture : IsText files ask.arch limit texts.four.architecture
  pub netlist : IsText files ask.net limit texts.four.netlist
  pub placement : IsText files ask.place limit texts.four.placement
  pub route : IsText files ask.route limit texts.four.route
  pub names : IsTextIf files ask.names limit texts.names
  pub routed : IsTextIf files (name_of ask Routed) limit texts.routed

-- the file with this name has no more bytes than the limit
abbrev pub IsReadable : Option FileMap → (name : Bytes) → (limit : ℕ) → Type 0
IsReadable files name limit = (bytes : Bytes) × IsText files name limit bytes

-- the same of a file that may be not asked for
abbrev pub IsReadableIf : Option FileMap → (name : Option Bytes) → (limit : ℕ) → Type 0
IsReadableIf files name limit = (bytes : Option Bytes) × IsTextIf files name limit bytes

-- a file's turn comes: each that is read before it has no more bytes than the limit
abbrev pub IsReached : Asked → (limit : ℕ) → Option FileMap → GivenFile → Type 0
IsReached ask limit files (Text Architecture) = ⊤
IsReached ask limit files (Text Netlist) = IsReadable files ask.arch limit
IsReached ask limit files (Text Placement) =
    IsReadable files ask.arch limit × IsReadable files ask.net limit
IsReached ask limit files (Text Route) =
    IsReadable files ask.arch limit × IsReadable files ask.net limit
    × IsReadable files ask.place limit
IsReached ask limit files Names =
    IsReadable files ask.arch limit × IsReadable files ask.net limit
    × IsReadable files ask.place limit × IsReadable files ask.route limit
IsReached ask limit files Routed =
    IsReadable files ask.arch limit × IsReadable files ask.net limit
    × IsReadable files ask.place limit × IsReadable files ask.route limit
    × IsReadableIf files ask.names limit

-- the stop of this file, of these files and at this count of faults: none has its name, or the
-- desk failed on it; it has more bytes than the limit; or there was no memory. Only in the first
-- case the desk failed
abbrev pub StopsAt : GivenFile → (name : Bytes) → (limit : ℕ) → Option FileMap → (faults : ℕ) →
    (now : DeskState) → Stop → Type 0
StopsAt file name limit files faults now (Unread at) =
    (at ≡ file) × FaultIsOn files name now.fault_name × RisesByOne faults now.faults
StopsAt file name limit files faults now (TooLong at) =
    (at ≡ file) × HasTakenOneMore files name limit now.left × (now.faults ≡ faults)
StopsAt file name limit files faults now Memory = now.faults ≡ faults
StopsAt file name limit files faults now _ = ⊥

-- the stop of a file that is asked for
abbrev pub StopsAtIf : GivenFile → Option Bytes → (limit : ℕ) → Option FileMap → (faults : ℕ) →
    (now : DeskState) → Stop → Type 0
StopsAtIf file None limit files faults now stop = ⊥
StopsAtIf file (Some name) limit files faults now stop =
    StopsAt file name limit files faults now stop

-- the stop is that of the first file of the words that is not read
pub record IsUnread (ask : Asked) (limit : ℕ) (before now : DeskState) (stop : Stop) :
    Type 0 where
  pub file : GivenFile
  pub name : Bytes
  pub named : name_of ask file ≡ Some name
  pub reached : IsReached ask limit before.files file
  pub stops : StopsAt file name limit before.files before.faults now stop

-- the texts were read, and the desk did not fail
pub record AreRead (ask : Asked) (limit : ℕ) (before : DeskState) (texts : GivenTexts)
    (now : DeskState) : Type 0 where
  pub are_texts : AreTexts ask limit before.files texts
  pub faults : now.faults ≡ before.faults
