-- What a pin line says: `inpin class: n [global] sides`, or the same with `outpin`.
use Rattle.std.specs.Prelude.{ℕ, ◌==◌, Bool, true, false, not, ◌&&◌, ◌||◌, [], ◌∷◌, drop, codes, bytes_eq, slice_get, Option, Some, None, option_map, option_and_then, if◌then◌else◌}
use Rattle.std.specs.List.{list_any}
use Rattle.fpga_types.specs.ArchSound.{has_side}
use Rattle.fpga_types.specs.declared.arch.PinSpec.{PinSpec}
use Rattle.fpga_types.specs.declared.arch.SideSet.{SideSet}
use Rattle.fpga_text.specs.Bytes.{Bytes, is_empty}
use Rattle.fpga_text.specs.Said.{is_text, whole_said}
use Rattle.fpga_text.specs.Words.{Words}
use Rattle.fpga_arch.specs.declared.keyword.Keyword.{Keyword}
use Rattle.fpga_arch.specs.declared.keyword.Keyword.TheVariants.{Inpin, Outpin}
use Rattle.fpga_arch.specs.Keywords.{ArchLine}

-- whether a pin of this keyword drives its net, if it is that of a pin
abbrev pub direction_of : Keyword → Option Bool
direction_of Inpin = Some false
direction_of Outpin = Some true
direction_of _ = None

-- a class is due: the first word behind the keyword is `class:`
abbrev pub has_class : Words → Bool
has_class rest = is_text (codes "class:") (slice_get rest 0)

-- the class that is said behind `class:`
abbrev pub class_said : Words → Option ℕ
class_said rest = if has_class rest then whole_said (slice_get (drop 1 rest) 0) else None

-- the words behind the class
abbrev pub class_rest : Words → Words
class_rest rest = drop 1 (drop 1 rest)

-- the pin takes global nets alone: the first of these words is `global`
abbrev pub is_global : Words → Bool
is_global words = is_text (codes "global") (slice_get words 0)

-- the words of the sides: those behind `global`, if it is there
abbrev pub side_words : Words → Words
side_words words = if is_global words then drop 1 words else words

-- the side that a word names
abbrev pub side_of : Bytes → SideSet
side_of word = record {
  left = bytes_eq word (codes "left");
  right = bytes_eq word (codes "right");
  bottom = bytes_eq word (codes "bottom");
  top = bytes_eq word (codes "top");
}

-- the sides of both
abbrev pub with_sides : SideSet → SideSet → SideSet
with_sides a b = record {
  left = a.left || b.left;
  right = a.right || b.right;
  bottom = a.bottom || b.bottom;
  top = a.top || b.top;
}

-- no side
abbrev pub NO_SIDES : SideSet
NO_SIDES = record { left = false; right = false; bottom = false; top = false }

-- the sides that the words name
abbrev pub side_set : Words → SideSet
side_set [] = NO_SIDES
side_set (word ∷ more) = with_sides (side_of word) (side_set more)

-- the word is none of a side
abbrev pub is_no_side : Bytes → Bool
is_no_side word = not (has_side (side_of word))

-- there is no word of a side, or another word among them
abbrev pub lacks_sides : Words → Bool
lacks_sides words = is_empty words || list_any is_no_side words

-- the pin with this direction and class whose further words are these
abbrev pub pin_with : Words → Bool → ℕ → PinSpec
pin_with words output class = record {
  class = class;
  output = output;
  global = is_global words;
  sides = side_set (side_words words);
}

-- the pin that a line says, if it is a pin line and says a class
abbrev pub pin_of : ArchLine → Option PinSpec
pin_of line =
    option_and_then
    (λ output. option_map (pin_with (class_rest line.rest) output) (class_said line.rest))
    (direction_of line.keyword)

-- the pin has this class and another direction than this
abbrev pub is_opposed : ℕ → Bool → PinSpec → Bool
is_opposed class output pin =
    (pin.class == class) && (if output then not pin.output else pin.output)
