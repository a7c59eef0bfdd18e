-- What words and the values of options say.
use Rattle.std.specs.Prelude.{ℕ, Bool, ◌&&◌, List, Option, None, Some, nat_le, true, false, bytes_eq, codes, if◌then◌else◌}
use Rattle.std.specs.Option.{option_map_or}
use Rattle.fpga_text.specs.Numbers.{whole_number_of}
use Rattle.usage_words.specs.Word.{Word}
use Rattle.usage_words.specs.declared.item.Item.{Item}
use Rattle.usage_words.specs.declared.item.Item.TheVariants.{Arch, Cnf, Conflicts, From, Lrat, Max, Model, MemberSeed, Members, Net, Nets, Nx, Place, Prefix, Reach, Rounds, Route, Routed, Seconds, Seed, Width}
use Rattle.usage_words.specs.declared.item.Range.{Range}

-- the option with a value that a word names
abbrev pub option_named : Word → Option Item
option_named word =
    if bytes_eq word (codes "--conflicts") then Some Conflicts else
    if bytes_eq word (codes "--reach") then Some Reach else
    if bytes_eq word (codes "--members") then Some Members else
    if bytes_eq word (codes "--seed") then Some MemberSeed else
    if bytes_eq word (codes "--from") then Some From else
    if bytes_eq word (codes "--rounds") then Some Rounds else
    if bytes_eq word (codes "--seconds") then Some Seconds else None

-- how an item is called: as in the line of what a command takes, or by its option
abbrev pub name_of : Item → List ℕ
name_of Arch = codes "ARCH"
name_of Net = codes "NET"
name_of Place = codes "PLACE"
name_of Route = codes "ROUTE"
name_of Width = codes "WIDTH"
name_of Max = codes "MAX"
name_of Prefix = codes "PREFIX"
name_of Routed = codes "ROUTED"
name_of Cnf = codes "CNF"
name_of Lrat = codes "LRAT"
name_of Model = codes "MODEL"
name_of Seed = codes "SEED"
name_of Nx = codes "NX"
name_of Nets = codes "NETS"
name_of Conflicts = codes "--conflicts"
name_of Reach = codes "--reach"
name_of Members = codes "--members"
name_of MemberSeed = codes "--seed"
name_of From = codes "--from"
name_of Rounds = codes "--rounds"
name_of Seconds = codes "--seconds"

abbrev pub from_to : (least greatest : ℕ) → Option Range
from_to least greatest = Some (record { least = least; greatest = greatest })

-- the numbers that it may be, if it is to be one
abbrev pub range_of : Item → Option Range
range_of Width = from_to 1 64
range_of Max = from_to 1 64
range_of Reach = from_to 1 64
range_of Seed = from_to 0 2147483647
range_of MemberSeed = from_to 0 2147483647
range_of Nx = from_to 1 100
range_of Nets = from_to 1 10000
range_of Conflicts = from_to 1 100000000
range_of Members = from_to 1 8
range_of Rounds = from_to 1 100000
range_of Seconds = from_to 1 1000000
range_of _ = None

-- whether a word says a number in this range
abbrev pub is_within : Range → Word → Bool
is_within range word =
    option_map_or (λ number. nat_le range.least number && nat_le number range.greatest)
    (whole_number_of word) false

-- whether a word says it: a number in its range, where it is to be one
abbrev pub takes : Item → Word → Bool
takes item word = option_map_or (λ range. is_within range word) (range_of item) true
