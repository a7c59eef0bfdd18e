-- Which nets are to be seen beside the others.
use Rattle.std.specs.Prelude.{◌≡◌, ◌||◌, Bool, List, [], Option, Some, None, bytes_eq, codes, if◌then◌else◌}
use Rattle.fpga_text.specs.Bytes.{Bytes}
use Rattle.fpga_text.specs.Said.{has_text}
use Rattle.route_draw.specs.declared.emphasis.Emphasis.{Emphasis}
use Rattle.route_draw.specs.declared.emphasis.Emphasis.TheVariants.{Alike, Blamed}

-- a net with this name is blamed, where these names were given
abbrev pub is_blamed : List Bytes → Bytes → Bool
is_blamed names name = has_text names name

-- one name more was given
abbrev pub GainsBlamed : (old : List Bytes) → (name : Bytes) → (new : List Bytes) → Type 0
GainsBlamed old name new =
    (other : Bytes) → is_blamed new other ≡ (is_blamed old other || bytes_eq name other)

-- which nets are to blame, by their names, if the picture is to show that
abbrev pub Blame : Type 0
Blame = Option (Bytes → Bool)

abbrev pub blame_of : Emphasis → Blame
blame_of Alike = None
blame_of (Blamed names) = Some (is_blamed names)

-- what stands before the class of a net: a blamed one is bold, and the others are pale
abbrev pub mark_of : Blame → Bytes → Bytes
mark_of None name = []
mark_of (Some blamed) name = if blamed name then codes "b " else codes "f "
