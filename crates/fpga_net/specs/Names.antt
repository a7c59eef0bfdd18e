-- Names in the order in which they first stand.
use Rattle.std.specs.Prelude.{◌≡◌, ℕ, not, List, [], ◌∷◌, ◌++◌, filter, map, bytes_eq, position, AllPairs, ◌≢◌, Option, if◌then◌else◌}
use Rattle.std.specs.BTreeMap.{BTreeMap}
use Rattle.std.specs.Borrow.{Bor}
use Rattle.fpga_text.specs.Bytes.{Bytes}
use Rattle.fpga_text.specs.Said.{has_text}
use Rattle.fpga_types.specs.Names.{number_in}

-- the names, each once, in the order in which they first stand
abbrev pub first_seen : List Bytes → List Bytes
first_seen [] = []
first_seen (name ∷ more) = name ∷ filter (λ other. not (bytes_eq other name)) (first_seen more)

-- the names with this one, unless it is among them
abbrev pub names_with : List Bytes → Bytes → List Bytes
names_with names name = if has_text names name then names else names ++ name ∷ []

-- the number of a name: its position among the names
abbrev pub number_of : List Bytes → Bytes → Option ℕ
number_of names name = position (λ other. bytes_eq other name) names

-- no two names are the same
abbrev pub AreApart : List Bytes → Type 0
AreApart names = AllPairs (λ (a b : Bytes). a ≢ b) names

-- the bytes of names that are lent
abbrev pub bytes_of : List (Bor Bytes) → List Bytes
bytes_of names = map (λ (name : Bor Bytes). name.now) names

-- each name that is among these has its number in the map, and no other has one
pub record AreNumbered (names : List Bytes) (numbers : BTreeMap (Bor Bytes) ℕ) : Type 0 where
  pub found : (name : Bytes) → number_in numbers name ≡ number_of names name
