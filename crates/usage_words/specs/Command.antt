-- The commands, and what each takes behind its name.
use Rattle.std.specs.Prelude.{ℕ, Bool, ◌||◌, ◌==◌, List, Option, None, Some, true, false, bytes_eq, codes, option_and_then, if◌then◌else◌}
use Rattle.usage_words.specs.Item.{option_named}
use Rattle.usage_words.specs.Word.{Word}
use Rattle.usage_words.specs.declared.command.Command.{Command}
use Rattle.usage_words.specs.declared.command.Command.TheVariants.{Bound, Check, Core, Decode, Encode, Gen, Global, Judge, Least, Route, Sweep, Trial, Verify}
use Rattle.usage_words.specs.declared.item.Item.{Item}
use Rattle.usage_words.specs.declared.item.Item.TheVariants.{Arch, Cnf, Conflicts, From, Lrat, Max, MemberSeed, Members, Model, Net, Nets, Nx, Place, Prefix, Reach, Rounds, Route as RouteFile, Routed, Seconds, Seed, Width}

-- the command that a word names, if it names one
abbrev pub command_of : Word → Option Command
command_of name =
    if bytes_eq name (codes "route") then Some Route else
    if bytes_eq name (codes "sweep") then Some Sweep else
    if bytes_eq name (codes "encode") then Some Encode else
    if bytes_eq name (codes "decode") then Some Decode else
    if bytes_eq name (codes "core") then Some Core else
    if bytes_eq name (codes "check") then Some Check else
    if bytes_eq name (codes "verify") then Some Verify else
    if bytes_eq name (codes "judge") then Some Judge else
    if bytes_eq name (codes "bound") then Some Bound else
    if bytes_eq name (codes "global") then Some Global else
    if bytes_eq name (codes "least") then Some Least else
    if bytes_eq name (codes "gen") then Some Gen else
    if bytes_eq name (codes "trial") then Some Trial else None

abbrev pub name_of : Command → List ℕ
name_of Route = codes "route"
name_of Sweep = codes "sweep"
name_of Encode = codes "encode"
name_of Decode = codes "decode"
name_of Core = codes "core"
name_of Check = codes "check"
name_of Verify = codes "verify"
name_of Judge = codes "judge"
name_of Bound = codes "bound"
name_of Global = codes "global"
name_of Least = codes "least"
name_of Gen = codes "gen"
name_of Trial = codes "trial"

-- ---- words without a dash

-- ARCH NET PLACE
abbrev pub placed : ℕ → Option Item
placed number =
    if number == 0 then Some Arch else
    if number == 1 then Some Net else
    if number == 2 then Some Place else None

-- ARCH NET PLACE WIDTH PREFIX, or with MAX
abbrev pub on_placement : ℕ → (width : Item) → Option Item
on_placement number width =
    if number == 3 then Some width else
    if number == 4 then Some Prefix else placed number

-- ARCH NET PLACE ROUTE WIDTH PREFIX, or with MAX
abbrev pub on_problem : ℕ → (width : Item) → Option Item
on_problem number width =
    if number == 3 then Some RouteFile else
    if number == 4 then Some width else
    if number == 5 then Some Prefix else placed number

-- SEED NX NETS
abbrev pub recipe : ℕ → Option Item
recipe number =
    if number == 0 then Some Seed else
    if number == 1 then Some Nx else
    if number == 2 then Some Nets else None

-- what the word with this number behind the name of a command says
abbrev pub word_of : Command → ℕ → Option Item
word_of Route number = on_problem number Width
word_of Sweep number = on_problem number Max
word_of Encode number = on_problem number Width
word_of Decode number =
    if number == 5 then Some Model else
    if number == 6 then Some Prefix else on_problem number Width
word_of Core number = on_problem number Width
word_of Check number =
    if number == 0 then Some Cnf else
    if number == 1 then Some Lrat else None
word_of Verify number = if number == 5 then Some Routed else on_problem number Width
word_of Judge number = if number == 4 then Some Routed else on_placement number Width
word_of Bound number = placed number
word_of Global number = on_placement number Width
word_of Least number = on_placement number Max
word_of Gen number = if number == 3 then Some Prefix else recipe number
word_of Trial number =
    if number == 3 then Some Max else
    if number == 4 then Some Prefix else recipe number

-- ---- options

-- an option with a value that a command has
abbrev pub has_option : Command → Item → Bool
has_option Route Conflicts = true
has_option Sweep Conflicts = true
has_option Core Conflicts = true
has_option Trial Conflicts = true
has_option Route Seconds = true
has_option Sweep Seconds = true
has_option Core Seconds = true
has_option Global Seconds = true
has_option Least Seconds = true
has_option Trial Seconds = true
has_option Route Reach = true
has_option Sweep Reach = true
has_option Encode Reach = true
has_option Decode Reach = true
has_option Verify Reach = true
has_option Trial Reach = true
has_option Route Members = true
has_option Sweep Members = true
has_option Route MemberSeed = true
has_option Sweep MemberSeed = true
has_option Global From = true
has_option Least From = true
has_option Global Rounds = true
has_option Least Rounds = true
has_option _ _ = false

-- the option with a value that a word names, if the command has it
abbrev pub option_of : Command → Word → Option Item
option_of command word =
    option_and_then (λ item. if has_option command item then Some item else None)
    (option_named word)

-- a way to break the symmetry of tracks
abbrev pub is_symmetry : Word → Bool
is_symmetry word = bytes_eq word (codes "--pin") || bytes_eq word (codes "--symmetry")

-- what a search may be told without a value
abbrev pub is_effort : Word → Bool
is_effort word = bytes_eq word (codes "--keep")
    || (bytes_eq word (codes "--count") || bytes_eq word (codes "--stats"))

-- whether a word is an option of the command that has no value
abbrev pub has_flag : Command → Word → Bool
has_flag Route word = is_symmetry word || is_effort word
has_flag Sweep word = is_symmetry word || is_effort word
has_flag Encode word = is_symmetry word || bytes_eq word (codes "--names")
has_flag Decode word = is_symmetry word
has_flag Core word = is_symmetry word || bytes_eq word (codes "--stats")
has_flag Trial word = is_effort word
has_flag Verify word = bytes_eq word (codes "--all")
has_flag Judge word = bytes_eq word (codes "--strict")
has_flag Global word = bytes_eq word (codes "--free") || bytes_eq word (codes "--stats")
has_flag Least word = bytes_eq word (codes "--free") || bytes_eq word (codes "--stats")
has_flag _ word = false
