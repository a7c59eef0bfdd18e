-- The names of nets to blame, as `core` says them.
use Rattle.std.specs.Prelude.{◌≡◌, ◌≢◌, ◌⊎◌, ℕ, Bool, false, not, ◌&&◌, ◌||◌, ⊤, List, [], ◌∷◌, Option, Some, None, bytes_eq, codes, drop, find, flat_map, map, slice_get, if◌then◌else◌}
use Rattle.std.specs.List.{list_any}
use Rattle.fpga_text.specs.Bytes.{Bytes, is_empty}
use Rattle.fpga_text.specs.Said.{begins}
use Rattle.fpga_text.specs.Words.{TextLine, Words, text_lines}
use Rattle.fpga_text.specs.declared.style.Style.TheVariants.{Plain}
use Rattle.fpga_types.specs.declared.netlist.Net.{Net}
use Rattle.route_draw.specs.Blamed.{Blame, is_blamed}
use Rattle.route_picture.specs.declared.stop.Stop.{Stop}
use Rattle.route_picture.specs.declared.stop.Stop.TheVariants.{NoNet, NoNames, Memory}

-- the name that a line of these words gives: there are two, of which the first is `net`
abbrev pub name_in : Words → Option Bytes
name_in words =
    if begins (codes "net") words && is_empty (drop 2 words) then slice_get words 1 else None

-- a name that is given, and the number of its line
pub record Given : Type 0 where
  pub line : ℕ
  pub name : Bytes

abbrev pub given_by : (line : ℕ) → Option Bytes → List Given
given_by line None = []
given_by line (Some name) = record { line = line; name = name } ∷ []

-- the names that lines give, in their order; the other lines are skipped
abbrev pub given : List TextLine → List Given
given lines = flat_map (λ (line : TextLine). given_by line.number (name_in line.words)) lines

-- the names that a text gives, each with its line
abbrev pub given_in : Bytes → List Given
given_in text = given (text_lines Plain text)

-- these names alone
abbrev pub names_of : List Given → List Bytes
names_of all = map (λ (one : Given). one.name) all

-- the nets to blame are those whose names a text gives, if there is one
abbrev pub blame_said : Option Bytes → Blame
blame_said None = None
blame_said (Some text) = Some (is_blamed (names_of (given_in text)))

-- a net has the name
abbrev pub has_net : List Net → Bytes → Bool
has_net nets name = list_any (λ (net : Net). bytes_eq net.name name) nets

-- the first name that is given and that no net has
abbrev pub first_strange : List Net → List Given → Option Given
first_strange nets all = find (λ (one : Given). not (has_net nets one.name)) all

-- a text names some nets, and each name that it gives is that of a net
pub record NamesNets (nets : List Net) (text : Bytes) : Type 0 where
  pub some : given_in text ≢ []
  pub none_strange : first_strange nets (given_in text) ≡ None

-- the same, if there is a text
abbrev pub NamesNetsIf : List Net → Option Bytes → Type 0
NamesNetsIf nets None = ⊤
NamesNetsIf nets (Some text) = NamesNets nets text

-- a text gives no name, or at this line the first that no net has
abbrev pub NamesOthers : List Net → Bytes → Stop → Type 0
NamesOthers nets text (NoNet line) =
    (name : Bytes)
    × (first_strange nets (given_in text) ≡ Some (record { line = line; name = name }))
NamesOthers nets text NoNames = given_in text ≡ []
NamesOthers nets text _ = ⊥

abbrev pub NamesOthersIf : List Net → Option Bytes → Stop → Type 0
NamesOthersIf nets None stop = ⊥
NamesOthersIf nets (Some text) stop = NamesOthers nets text stop

-- names of nets: a name is among them where a net has it
abbrev pub AreNames : List Net → List Bytes → Type 0
AreNames nets names = (name : Bytes) → is_blamed names name ≡ has_net nets name

-- of all names that are given some were taken, and the rest is to come
pub record TakesFront (nets : List Net) (all rest : List Given) (names : List Bytes) : Type 0 where
  pub same : (name : Bytes) → (is_blamed names name || is_blamed (names_of rest) name)
      ≡ is_blamed (names_of all) name
  pub strange : first_strange nets rest ≡ first_strange nets all

-- the names that a text gives were taken, each that of a net, and there are some
pub record TakesNames (nets : List Net) (text : Bytes) (names : List Bytes) : Type 0 where
  pub same : (name : Bytes) → is_blamed names name ≡ is_blamed (names_of (given_in text)) name
  pub names_nets : NamesNets nets text

-- the names of a text are not taken: it gives none, or one of no net, or there was no memory
abbrev pub IsStopped : List Net → Option Bytes → Stop → Type 0
IsStopped nets text stop = NamesOthersIf nets text stop ⊎ (stop ≡ Memory)

-- what a line gives is the name of no net, which is told with its number; or there was no memory
abbrev pub IsStrange : List Net → List Given → Stop → Type 0
IsStrange nets here stop =
    ((one : Given) × (here ≡ one ∷ []) × (has_net nets one.name ≡ false) × (stop ≡ NoNet one.line))
    ⊎ (stop ≡ Memory)
