-- What a segment line says: `segment`, and pairs of a key and a value.
use Rattle.std.specs.Prelude.{◌==◌, Bool, not, ◌&&◌, ◌||◌, List, [], ◌∷◌, codes, bytes_eq, Option, Some, None}
use Rattle.std.specs.List.{list_any}
use Rattle.fpga_text.specs.Bytes.{Bytes}
use Rattle.fpga_text.specs.Said.{says_whole, says_decimal}
use Rattle.fpga_text.specs.Words.{Words}

-- a key and its value, if it has one
pub record Pair : Type 0 where
  pub key : Bytes
  pub value : Option Bytes

-- the words in pairs; the last key may have no value
abbrev pub pairs : Words → List Pair
pairs [] = []
pairs (key ∷ []) = record { key = key; value = None } ∷ []
pairs (key ∷ value ∷ more) = record { key = key; value = Some value } ∷ pairs more

-- the pair says the length
abbrev pub is_length : Pair → Bool
is_length pair = bytes_eq pair.key (codes "length:")

-- it says one that is not 1
abbrev pub is_long : Pair → Bool
is_long pair = is_length pair && not (says_whole (λ n. n == 1) pair.value)

-- the pair says a part of the connection boxes or of the switch blocks
abbrev pub is_part : Pair → Bool
is_part pair = bytes_eq pair.key (codes "Frac_cb:") || bytes_eq pair.key (codes "Frac_sb:")

-- it says one that is not 1
abbrev pub is_sparse : Pair → Bool
is_sparse pair = is_part pair && not (says_decimal (λ d. d == 1000000) pair.value)

-- no length is said, or one that is not 1
abbrev pub lacks_length : Words → Bool
lacks_length words = not (list_any is_length (pairs words)) || list_any is_long (pairs words)

-- a part of the boxes or of the switches is left out
abbrev pub leaves_out : Words → Bool
leaves_out words = list_any is_sparse (pairs words)
