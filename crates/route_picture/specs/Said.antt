-- What is said where no picture is printed.
use Rattle.std.specs.Prelude.{◌≡◌, ℕ, ◌++◌, ⊤, List, [], codes, decimal, Option, Some, None, option_and_then, true}
use Rattle.code_words.specs.Refused.{judged_said, limit_said, line_said}
use Rattle.fpga_problem.specs.declared.text_file.TextFile.TheVariants.{Architecture, Netlist, Placement, Route}
use Rattle.fpga_text.specs.Bytes.{Bytes}
use Rattle.fpga_text.specs.declared.fault.TextFault.{TextFault}
use Rattle.fpga_text.specs.declared.fault.TextFault.TheVariants.{Bad, Limit, Memory as NoMemory}
use Rattle.route_picture.specs.Files.{name_of}
use Rattle.route_picture.specs.Page.{picture_words}
use Rattle.route_picture.specs.Words.{asked}
use Rattle.route_picture.specs.declared.given_file.GivenFile.{GivenFile}
use Rattle.route_picture.specs.declared.given_file.GivenFile.TheVariants.{Text, Names, Routed}
use Rattle.route_picture.specs.declared.stop.Stop.{Stop}
use Rattle.route_picture.specs.declared.stop.Stop.TheVariants.{Unread, TooLong, Faulty, NoNet, NoNames, BadRouted, Illegal, Memory, Unprinted, Usage}

-- the kind of a file
abbrev pub kind_of : GivenFile → List ℕ
kind_of (Text Architecture) = codes "architecture"
kind_of (Text Netlist) = codes "netlist"
kind_of (Text Placement) = codes "placement"
kind_of (Text Route) = codes "route"
kind_of Names = codes "names"
kind_of Routed = codes "routed"

-- the name that words give for a file
abbrev pub name_in : List Bytes → GivenFile → Option Bytes
name_in words file = option_and_then (λ ask. name_of ask file) (asked (picture_words words))

-- the kind of a file, and the name that was given for it
abbrev pub file_said : GivenFile → Option Bytes → List ℕ
file_said file (Some name) = kind_of file ++ codes " file " ++ name
file_said file None = kind_of file ++ codes " file"

-- the file that a fault of a text is about, if it is about one
abbrev pub file_faulty : GivenFile → TextFault → Option GivenFile
file_faulty file NoMemory = None
file_faulty file _ = Some file

-- the file that a stop is about, if it is about one
abbrev pub file_about : Stop → Option GivenFile
file_about (Unread file) = Some file
file_about (TooLong file) = Some file
file_about (Faulty refusal) = file_faulty (Text refusal.file) refusal.fault
file_about (NoNet line) = Some Names
file_about NoNames = Some Names
file_about (BadRouted fault) = file_faulty Routed fault
file_about (Illegal line cause) = Some Routed
file_about _ = None

-- what is said first: the file that is meant, by the name that the words give
abbrev pub about_said : List Bytes → Option GivenFile → List ℕ
about_said words (Some file) = file_said file (name_in words file)
about_said words None = []

-- a line of the file of names with a name that no net has
abbrev pub no_net_said : (line : ℕ) → List ℕ
no_net_said line =
    codes ", line " ++ decimal line ++ codes ": the netlist has no net of this name"

-- memory ran out
abbrev pub memory_said : List ℕ
memory_said = codes "Memory ran out, so that nothing was drawn."

-- which words the command takes
abbrev pub usage_said : List ℕ
usage_said =
    codes "The command does not take these words.\n"
    ++ (codes "Usage: gafkelam picture ARCH NET PLACE ROUTE WIDTH [NAMES | ROUTED --reach L] "
    ++ (codes "[--html], WIDTH and L from 1 to 64\n"
    ++ codes "As in: gafkelam picture design.arch design.net design.place out.route 9 > out.svg"))

-- what is wrong with a text of a file
abbrev pub fault_said : TextFault → List ℕ
fault_said (Bad line code) = line_said line code
fault_said (Limit code count) = codes ": " ++ limit_said code count
fault_said NoMemory = memory_said

-- a text says what a stop means, without the file that it is about; that a file is not read is said
-- with what the system tells of it
abbrev pub Means : Stop → List ℕ → Type 0
Means (Unread file) text = ⊤
Means (TooLong file) text = text ≡ codes ": it has more than 67,108,864 bytes"
Means (Faulty refusal) text = text ≡ fault_said refusal.fault
Means (NoNet line) text = text ≡ no_net_said line
Means NoNames text =
    text ≡ codes ": no line names a net; gafkelam core does, where a width is unroutable"
Means (BadRouted fault) text = text ≡ fault_said fault
Means (Illegal line cause) text = text ≡ judged_said true line cause
Means Memory text = text ≡ memory_said
Means Unprinted text = text ≡ codes "Standard output takes no more of the picture."
Means Usage text = text ≡ usage_said

-- after what stood in a text comes the file that is meant, then what is wrong, and a newline
pub record IsSaid (words : List Bytes) (stop : Stop) (old new : List ℕ) : Type 0 where
  pub meaning : List ℕ
  pub means : Means stop meaning
  pub text : new ≡ old ++ about_said words (file_about stop) ++ meaning ++ codes "\n"
