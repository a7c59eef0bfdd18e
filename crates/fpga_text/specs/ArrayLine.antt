-- The line that says the size of the array, as the placement and route texts of VPR 4.30 have it.
use Rattle.std.specs.Prelude.{Bool, ◌&&◌, ◌||◌, [], ◌∷◌, codes, bytes_eq, Option, Some, None, if◌then◌else◌}
use Rattle.fpga_text.specs.Bytes.{Bytes}
use Rattle.fpga_text.specs.Words.{Words}

-- the words of the array line that say its size
pub record SizeWords : Type 0 where
  pub nx : Bytes
  pub ny : Bytes

-- the point at the end may be absent
abbrev pub is_blocks : Bytes → Bool
is_blocks word = bytes_eq word (codes "blocks.") || bytes_eq word (codes "blocks")

-- the words round the size in an array line
abbrev pub is_size_frame : (array size by logic blocks : Bytes) → Bool
is_size_frame array size by logic blocks =
    bytes_eq array (codes "Array") && bytes_eq size (codes "size:") && bytes_eq by
    (codes "x") && bytes_eq logic (codes "logic") && is_blocks blocks

-- `Array size: nx x ny logic blocks.`
abbrev pub size_words : Words → Option SizeWords
size_words (array ∷ size ∷ nx ∷ by ∷ ny ∷ logic ∷ blocks ∷ []) =
    if is_size_frame array size by logic blocks then Some (record { nx = nx; ny = ny }) else None
size_words _ = None
