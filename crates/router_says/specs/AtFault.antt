-- What is said of a fault in a file behind its line and its code: what is at fault, by its name, or
-- the line as it stands. The files are read once more for it.
use Rattle.std.specs.Prelude.{◌≡◌, ◌≤◌, ◌⊎◌, ℕ, ◌+◌, ◌==◌, ◌&&◌, Bool, List, [], ◌∷◌, ◌++◌, codes, bytes_eq, decimal, drop, find, flat_map, is_none, is_some, length, Option, Some, None, option_map, if◌then◌else◌}
use Rattle.std.specs.List.{list_any}
use Rattle.std.specs.Option.{option_map_or, option_or}
use Rattle.code_words.specs.Foreign.{foreign_phrase}
use Rattle.desk_io.specs.DeskState.{DeskState}
use Rattle.desk_io.specs.Files.{Bytes, RisesByOne}
use Rattle.desk_io.specs.Reading.{IsWhole}
use Rattle.fault_names.specs.Ends.{driver_said, no_line_said, no_place_said, no_sink_said}
use Rattle.fault_names.specs.LinesBy.{has_line, line_with}
use Rattle.fault_names.specs.NameBytes.{name_said}
use Rattle.fault_names.specs.Quoted.{line_quoted, route_line_quoted}
use Rattle.fpga_arch.specs.Codes.{arch_faults}
use Rattle.fpga_arch.specs.Keywords.{keyword_word, keywords}
use Rattle.fpga_arch.specs.Value.{arch_value}
use Rattle.fpga_arch.specs.declared.keyword.Keyword.{Keyword}
use Rattle.fpga_net.specs.Uses.{is_open}
use Rattle.fpga_problem.specs.declared.text_file.TextFile.TheVariants.{Architecture, Netlist, Placement, Route}
use Rattle.fpga_route.specs.Codes.{route_faults}
use Rattle.fpga_route.specs.Value.{route_value}
use Rattle.fpga_text.specs.FirstFault.{first_fault}
use Rattle.fpga_text.specs.Said.{begins, has_text}
use Rattle.fpga_text.specs.Words.{TextLine, Words, text_lines}
use Rattle.fpga_text.specs.declared.style.Style.{Style}
use Rattle.fpga_text.specs.declared.style.Style.TheVariants.{Hash, Joined, Plain}
use Rattle.fpga_types.specs.declared.arch.Arch.{Arch}
use Rattle.fpga_types.specs.declared.arch.PinSpec.{PinSpec}
use Rattle.fpga_types.specs.declared.route.RouteText.{RouteText}
use Rattle.router_says.specs.declared.sought.Sought.{Sought}
use Rattle.router_says.specs.declared.sought.Sought.TheVariants.{Drivers, GlobalPin, Keywords, NoLine, NoPlace, NoSink, Routed as RoutedLine, SharedClass, Standing}
use Rattle.router_says.specs.declared.pin_use.PinUse.{PinUse}
use Rattle.router_says.specs.declared.phrases.TheConstants.{AND, FAULT_NET, FAULT_NO_KEYWORD, FAULT_PIN, FAULT_PINS}
use Rattle.fpga_problem.specs.Sources.{IsLonger}
use Rattle.fpga_problem.specs.declared.source.TheConstants.{TEXT_BYTES}
use Rattle.run_outcome.specs.declared.text_file.TextFile.{TextFile}
use Rattle.run_outcome.specs.declared.text_file.TextFile.TheVariants.{Problem, Routed}

-- behind a text comes one that is so
abbrev pub Appends : (List ℕ → Type 0) → (old new : List ℕ) → Type 0
Appends is old new = (named : List ℕ) × is named × (new ≡ old ++ named)

-- ---- the keywords that have no line

abbrev pub keyword_said : Bytes → (keyword : Bytes) → List ℕ
keyword_said text keyword = if has_line text keyword then [] else FAULT_NO_KEYWORD.now ++ keyword

abbrev pub missing_said : Bytes → List ℕ
missing_said text = flat_map (λ (k : Keyword). keyword_said text (keyword_word k)) keywords

-- ---- the nets of a pinlist

-- a net on a pin: the pin by number, what it is, and the net by name
pub record NetOnPin : Type 0 where
  pub number : ℕ
  pub pin : PinSpec
  pub net : Bytes

abbrev pub use_said : PinUse → NetOnPin
use_said used = record { number = used.number; pin = used.pin; net = used.net.now }

-- a line with these words makes the net global
abbrev pub makes_global : (net : Bytes) → Words → Bool
makes_global net words = begins (codes ".global") words && has_text (drop 1 words) net

abbrev pub is_made_global : Bytes → (net : Bytes) → Bool
is_made_global text net =
    list_any (λ (line : TextLine). makes_global net line.words) (text_lines Joined text)

-- the net, where the word names an ordinary one
abbrev pub use_here : Bytes → NetOnPin → List NetOnPin
use_here text used =
    if is_open used.net then [] else if is_made_global text used.net then [] else used ∷ []

-- the ordinary nets that these words name on these pins, numbered from here on
abbrev pub ordinary_uses : Bytes → (first : ℕ) → List PinSpec → Words → List NetOnPin
ordinary_uses text first [] words = []
ordinary_uses text first (pin ∷ pins) [] = []
ordinary_uses text first (pin ∷ pins) (word ∷ words) =
    use_here text (record { number = first; pin = pin; net = word })
    ++ ordinary_uses text (first + 1) pins words

-- the ordinary nets of the pinlist on the line with this number
abbrev pub uses_at : Bytes → List PinSpec → (number : ℕ) → List NetOnPin
uses_at text pins number =
    option_map_or (λ (line : TextLine). ordinary_uses text 0 pins (drop 1 line.words))
    (line_with Joined text number) []

-- the pin is for global nets
abbrev pub is_on_global_pin : NetOnPin → Bool
is_on_global_pin used = used.pin.global

abbrev pub global_pin_said : NetOnPin → List ℕ
global_pin_said used =
    FAULT_NET.now ++ name_said used.net ++ FAULT_PIN.now ++ decimal used.number

-- the pins are of one class, and one net is on both
abbrev pub same_class : (used other : NetOnPin) → Bool
same_class used other = used.pin.class == other.pin.class && bytes_eq used.net other.net

-- the first with the first behind it that is on its net and of its class
abbrev pub first_pair : List NetOnPin → Option (NetOnPin × NetOnPin)
first_pair [] = None
first_pair (used ∷ more) =
    option_or (option_map (λ other. (used, other)) (find (same_class used) more)) (first_pair more)

abbrev pub pair_said : NetOnPin × NetOnPin → List ℕ
pair_said pair = FAULT_NET.now ++ name_said pair.0.net ++ FAULT_PINS.now
    ++ decimal pair.0.number ++ AND.now ++ decimal pair.1.number

-- which net and which pins, of the ordinary nets of a pinlist
abbrev pub use_at_fault : Sought → List NetOnPin → List ℕ
use_at_fault GlobalPin uses = option_map_or global_pin_said (find is_on_global_pin uses) []
use_at_fault SharedClass uses = option_map_or pair_said (first_pair uses) []
use_at_fault _ uses = []

-- the architecture that a text says, if it has no fault
abbrev pub arch_in : Bytes → Option Arch
arch_in text = if is_none (first_fault (arch_faults text)) then Some (arch_value text) else None

-- ---- what the texts say of a fault

-- the route that a text says, if it has no fault
abbrev pub route_in : Bytes → Option RouteText
route_in text = if is_none (first_fault (route_faults text)) then Some (route_value text) else None

-- what is sought where this code is told of this file
abbrev pub sought_of : TextFile → (code : ℕ) → Sought
sought_of (Problem Architecture) code = if code == 101 then Keywords else Standing
sought_of (Problem Netlist) code =
    if code == 204 then Drivers else if code == 205 then NoSink else
    if code == 206 then GlobalPin else if code == 207 then SharedClass else Standing
sought_of (Problem Placement) code = if code == 305 then NoPlace else Standing
sought_of (Problem Route) code = if code == 502 then NoLine else Standing
sought_of file code = Standing

-- how a file is cut into lines
abbrev pub style_of : TextFile → Style
style_of (Problem Architecture) = Joined
style_of (Problem Netlist) = Joined
style_of (Problem Placement) = Hash
style_of (Problem Route) = Hash
style_of Routed = Hash
style_of file = Plain

-- a line of a file as it stands; of a route, in which net too
abbrev pub standing_said : TextFile → Bytes → (line : ℕ) → List ℕ
standing_said (Problem Route) text line = route_line_quoted text line
standing_said Routed text line = route_line_quoted text line
standing_said file text line = line_quoted (style_of file) text line

-- what a file is instead
abbrev pub foreign_said : (phrase : List ℕ) → List ℕ
foreign_said phrase = codes "\n" ++ (phrase ++ codes ".")

-- what the text of the file alone says: the keywords that have no line, or the line
abbrev pub own_said : TextFile → Sought → (line : ℕ) → Bytes → List ℕ
own_said file Keywords line text = missing_said text
own_said file sought line text = standing_said file text line

-- so where its first bytes do not tell that it is another file
abbrev pub file_shown : TextFile → Sought → (line : ℕ) → Bytes → List ℕ
file_shown file sought line text =
    option_map_or foreign_said (foreign_phrase text) (own_said file sought line text)

-- what an architecture and a netlist say: of the nets at this pinlist, or at the end
abbrev pub pins_said : Sought → (line : ℕ) → List PinSpec → Bytes → List ℕ
pins_said Drivers line pins text = driver_said pins text
pins_said NoSink line pins text = no_sink_said pins text
pins_said sought line pins text = use_at_fault sought (uses_at text pins line)

abbrev pub nets_said : Sought → (line : ℕ) → (arch text : Bytes) → List ℕ
nets_said sought line arch text =
    option_map_or (λ (a : Arch). pins_said sought line a.pins text) (arch_in arch) []

-- what a netlist and a route say: which net has no line
abbrev pub lineless_said : (text route : Bytes) → List ℕ
lineless_said text route =
    option_map_or (λ (r : RouteText). no_line_said text r.nets) (route_in route) []

-- what a netlist and a routed file say: the line, or at the end which net has none
abbrev pub judged_shown : (line : ℕ) → (text routed : Bytes) → List ℕ
judged_shown line text routed =
    if is_some (line_with Hash routed line) then route_line_quoted routed line
    else lineless_said text routed

-- what two texts say
abbrev pub both_shown : Sought → (line : ℕ) → (first second : Bytes) → List ℕ
both_shown NoPlace line text place = no_place_said text place
both_shown NoLine line text route = lineless_said text route
both_shown RoutedLine line text routed = judged_shown line text routed
both_shown sought line arch text = nets_said sought line arch text

-- ---- what is read for it

-- what was read of the file with this name is all that stands there; or nothing was read: there is
-- no name, the desk failed, or the file is too long
abbrev pub IsRead : (before now : DeskState) → (name text : Option Bytes) → Type 0
IsRead before now None text = text ≡ None
IsRead before now (Some name) (Some text) =
    IsWhole before.files name text × (length text ≤ TEXT_BYTES)
IsRead before now (Some name) None =
    RisesByOne before.faults now.faults ⊎ IsLonger before.files name TEXT_BYTES

-- what is said by the text of the file with this name, if it was read
abbrev pub SaidByOne : (before now : DeskState) → (name : Option Bytes)
    → (said_by : Bytes → List ℕ) → List ℕ → Type 0
SaidByOne before now name said_by said = (text : Option Bytes) × IsRead before now name text
    × (said ≡ option_map_or said_by text [])

-- by those of the files with these names, if both were read, one after the other
abbrev pub said_by_both : (said_by : Bytes → Bytes → List ℕ) → (first second : Option Bytes)
    → List ℕ
said_by_both said_by first second =
    option_map_or (λ a. option_map_or (λ b. said_by a b) second []) first []

pub record SaidByTwo (before now : DeskState) (first second : Option Bytes)
    (said_by : Bytes → Bytes → List ℕ) (said : List ℕ) : Type 0 where
  pub between : DeskState
  pub same : between.files ≡ before.files
  pub one : Option Bytes
  pub other : Option Bytes
  pub one_read : IsRead before between first one
  pub other_read : IsRead between now second other
  pub is : said ≡ said_by_both said_by one other

-- the two files whose texts say what is sought, where the file alone does not
abbrev pub two_files : Sought → Option (TextFile × TextFile)
two_files Keywords = None
two_files Standing = None
two_files NoPlace = Some (Problem Netlist, Problem Placement)
two_files NoLine = Some (Problem Netlist, Problem Route)
two_files RoutedLine = Some (Problem Netlist, Routed)
two_files sought = Some (Problem Architecture, Problem Netlist)

-- what is said by the file alone, or by two
abbrev pub ShowsBy : (before now : DeskState) → (names : TextFile → Option Bytes) → TextFile
    → (line : ℕ) → Sought → Option (TextFile × TextFile) → List ℕ → Type 0
ShowsBy before now names file line sought None said =
    SaidByOne before now (names file) (file_shown file sought line) said
ShowsBy before now names file line sought (Some two) said =
    SaidByTwo before now (names two.0) (names two.1) (both_shown sought line) said

-- what is said of what is sought, at this line of a file
abbrev pub Shows : (before now : DeskState) → (names : TextFile → Option Bytes) → TextFile
    → (line : ℕ) → Sought → List ℕ → Type 0
Shows before now names file line sought said =
    ShowsBy before now names file line sought (two_files sought) said
