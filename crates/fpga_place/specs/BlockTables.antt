-- Blocks by what their names are found with: their numbers in the order of their names.
use Rattle.std.specs.Prelude.{◌≡◌, ◌≢◌, ℕ, ◌+◌, ◌<◌, Bool, true, slice_index, List, [], length, slice_get, All, Contains}
use Rattle.std.specs.Cmp.Lexicographic.{slice_cmp}
use Rattle.std.specs.List.Sorted.{IsSorted}
use Rattle.std.specs.Option.{option_map_or}
use Rattle.std.specs.Ordering.{is_lt, nat_cmp, ordering_then}
use Rattle.std.specs.declared.cmp.Ordering.{Ordering}
use Rattle.fpga_types.specs.Placements.{HaveOwnNames}
use Rattle.fpga_types.specs.declared.netlist.Block.{Block}
use Rattle.fpga_text.specs.Bytes.{Bytes}

-- the order of names
abbrev pub name_cmp : Bytes → Bytes → Ordering
name_cmp a b = slice_cmp nat_cmp a b

-- the name of the block with this number
abbrev pub name_at : List Block → ℕ → Bytes
name_at blocks number = option_map_or (λ (block : Block). block.name) (slice_get blocks number) []

-- the order of numbers by the names of their blocks; of one name the lesser is first
abbrev pub number_cmp : List Block → ℕ → ℕ → Ordering
number_cmp blocks a b =
    ordering_then (name_cmp (name_at blocks a) (name_at blocks b)) (nat_cmp a b)

-- the name of the block with this number is before another
abbrev pub is_before : List Block → Bytes → ℕ → Bool
is_before blocks name number = is_lt (name_cmp (name_at blocks number) name)

-- each block stands in the row by its number, in the order of names
pub record StandByName (blocks : List Block) (row : List ℕ) : Type 0 where
  pub each : (number : ℕ) → number < length blocks → Contains row number
  pub within : All (λ number. number < length blocks) row
  pub sorted : IsSorted (number_cmp blocks) row

-- no block of a row has the name of the next one
abbrev pub DifferAlong : List Block → List ℕ → Type 0
DifferAlong blocks row = (k : ℕ) → k + 1 < length row
    → name_at blocks (slice_index row k) ≢ name_at blocks (slice_index row (k + 1))

-- each block stands in the row by its number, in the order of names, and what is said of the names
-- is true
pub record AreFound (blocks : List Block) (row : List ℕ) (are_apart : Bool) : Type 0 where
  pub stand : StandByName blocks row
  pub own : are_apart ≡ true → HaveOwnNames blocks
