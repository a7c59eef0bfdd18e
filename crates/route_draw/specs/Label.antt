-- What is drawn of a block: its rectangle, and its name in that.
use Rattle.std.specs.Prelude.{◌≡◌, ◌⊎◌, ℕ, ◌-◌, List, [], ◌++◌, codes, flat_map, length, nat_le, take, if◌then◌else◌}
use Rattle.fpga_text.specs.Bytes.{Bytes}
use Rattle.route_draw.specs.Area.{rectangle}
use Rattle.route_draw.specs.Escape.{escaped}
use Rattle.route_draw.specs.declared.label.TheConstants.{LABEL}

-- a name as it is shown in a block: whole if it is short, and else its front and two dots
abbrev pub shown_name : Bytes → List ℕ
shown_name name = if nat_le (length name) LABEL then flat_map escaped name
    else flat_map escaped (take (LABEL - 2) name) ++ codes ".."

-- what stands before a name: where its letters are, and how large
abbrev pub label_opening : (placed : List ℕ) → List ℕ
label_opening placed = codes "<text transform=\"matrix(" ++ placed ++ codes "\">"

abbrev pub label : (placed : List ℕ) → (name : Bytes) → List ℕ
label placed name = label_opening placed ++ shown_name name ++ codes "</text>"

-- a name in a block, or none where it has no room
abbrev pub IsLabel : (name : Bytes) → List ℕ → Type 0
IsLabel name text = (text ≡ []) ⊎ ((placed : List ℕ) × (text ≡ label placed name))

-- the rectangle of a block from its lower left corner on
abbrev pub shape : (x y width height : ℕ) → List ℕ
shape x y width height = codes "<path d=\"" ++ rectangle x y width height ++ codes "\"/>"

-- a rectangle, or none where a block has no place
abbrev pub IsShape : List ℕ → Type 0
IsShape text = (text ≡ []) ⊎ ((x : ℕ) × ((y : ℕ) × ((width : ℕ) × ((height : ℕ)
    × (text ≡ shape x y width height)))))

-- a rectangle, and the name of the block in it
pub record IsLabelled (name : Bytes) (drawn : List ℕ) : Type 0 where
  pub shape : List ℕ
  pub label : List ℕ
  pub is_shape : IsShape shape
  pub is_label : IsLabel name label
  pub drawn_is : drawn ≡ shape ++ label
