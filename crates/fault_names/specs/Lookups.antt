-- Names that are looked for among others.
use Rattle.std.specs.Prelude.{◌≡◌, ℕ, ◌&&◌, not, Bool, List, [], ◌∷◌, ◌++◌, find, is_some, map, Option, Some, None, if◌then◌else◌}
use Rattle.std.specs.BTreeMap.{BTreeMap}
use Rattle.std.specs.Borrow.{Bor}
use Rattle.fpga_text.specs.Bytes.{Bytes}
use Rattle.fpga_text.specs.Said.{has_text}
use Rattle.fpga_types.specs.Names.{number_in}

-- the bytes of names that are lent
abbrev pub bytes_of : List (Bor Bytes) → List Bytes
bytes_of names = map (λ (name : Bor Bytes). name.now) names

-- a name is found in the map exactly where it is one of these
abbrev pub Holds : List Bytes → BTreeMap (Bor Bytes) ℕ → Type 0
Holds names held = (name : Bytes) → is_some (number_in held name) ≡ has_text names name

-- the first of these names that is none of the others
abbrev pub first_apart : (others names : List Bytes) → Option Bytes
first_apart others names = find (λ name. not (has_text others name)) names

-- it stands before, and is none of the others
abbrev pub is_again : (others before : List Bytes) → Bytes → Bool
is_again others before name = has_text before name && not (has_text others name)

-- the first of these names that stands before, there or among these, and is none of the others
abbrev pub first_again : (others before names : List Bytes) → Option Bytes
first_again others before [] = None
first_again others before (name ∷ more) =
    if is_again others before name then Some name
    else first_again others (before ++ name ∷ []) more
