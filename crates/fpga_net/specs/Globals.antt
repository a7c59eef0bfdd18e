-- Which nets are found to be global, of those that are looked for.
use Rattle.std.specs.Prelude.{◌≡◌, ℕ, ◌≤◌, ◌||◌, not, true, Bool, List, [], ◌++◌, filter, flat_map, length, take}
use Rattle.std.specs.List.{list_any}
use Rattle.fpga_text.specs.Bytes.{Bytes}
use Rattle.fpga_text.specs.Said.{has_text}
use Rattle.fpga_text.specs.Words.{TextLine}
use Rattle.fpga_types.specs.declared.limits.TheConstants.{NET_LIMIT}
use Rattle.fpga_net.specs.Codes.{forms_of, globals_of}
use Rattle.fpga_net.specs.Forms.{Form, Pinlist, is_globals}
use Rattle.fpga_net.specs.Names.{first_seen}
use Rattle.fpga_net.specs.Uses.{is_open}

-- the words that name a net
abbrev pub nets_named : List Bytes → List Bytes
nets_named words = filter (λ word. not (is_open word)) words

-- the nets that a pinlist names for at most so many pins
abbrev pub nets_on_pins : ℕ → Form → List Bytes
nets_on_pins most (Pinlist nets) = nets_named (take most nets)
nets_on_pins most _ = []

-- the nets that the pinlists among these lines name for at most so many pins each
abbrev pub nets_among : ℕ → List TextLine → List Bytes
nets_among most lines = flat_map (nets_on_pins most) (forms_of lines)

-- one of these lines names global nets
abbrev pub some_globals : List TextLine → Bool
some_globals lines = list_any is_globals (forms_of lines)

-- each net on a pin is looked for, up to the lines that are ahead
pub record HasLooked (most : ℕ) (lines ahead : List TextLine) (sought : List Bytes) : Type 0 where
  pub before : List TextLine
  pub split : lines ≡ before ++ ahead
  pub nets : sought ≡ first_seen (nets_among most before)

-- each net on a pin is looked for, up to a line with which there are too many
pub record LooksFor (most : ℕ) (lines : List TextLine) (sought : List Bytes) : Type 0 where
  pub ahead : List TextLine
  pub looked : HasLooked most lines ahead sought
  pub whole : length sought ≤ NET_LIMIT → ahead ≡ []

-- a sought name is found exactly where it is a global one
abbrev pub AreFound : (sought globals found : List Bytes) → Type 0
AreFound sought globals found =
    (name : Bytes) → has_text sought name ≡ true → has_text found name ≡ has_text globals name

-- a sought name is found now exactly where it was before, or is one of the words
abbrev pub FindsMore : (sought found words found_now : List Bytes) → Type 0
FindsMore sought found words found_now = (name : Bytes) → has_text sought name ≡ true
    → has_text found_now name ≡ (has_text found name || has_text words name)

-- of the nets on pins, up to a line with which there are too many, the global ones are found
pub record FindsGlobals (most : ℕ) (lines : List TextLine) (found : List Bytes) : Type 0 where
  pub sought : List Bytes
  pub looks : LooksFor most lines sought
  pub finds : AreFound sought (globals_of lines) found
