-- The memory that the owner of a row has, and what it lends, for values of one type.
use Rattle.std.specs.Prelude.{ℕ, ◌+◌, ◌*◌, ◌^◌, List, [], ◌∷◌, length, Option, Some, None}
use Rattle.std.specs.Mem.{type_size}
use base.Fraction.{full_share}
use base.Fml.{Lft, Fml, ftrue, fsep, flt, froom}
use mir.Syntax.{Ty, ty_array}
use mir.Raw.{raw}
use denote.RattleType.{RattleType}
use denote.Memory.{lone, part_at, shared_of}
use denote.Sharing.{nothing, said, beside}
use denote.RawPtr.{Ptr, block_ptr, null_ptr}

module _ (R : RattleType) where
  -- the place `o` bytes into the block `b`: its value, or room for one
  abbrev pub owns_place : ℕ → ℕ → Option R.Denot → Fml
  owns_place b o None = froom (raw (lone R.mir)) b o
  owns_place b o (Some x) = part_at R full_share x b o

  -- places that lie side by side
  abbrev pub owns_places : ℕ → ℕ → List (Option R.Denot) → Fml
  owns_places b o [] = ftrue
  owns_places b o (slot ∷ slots) =
      fsep (owns_place b o slot) (owns_places b (o + type_size R) slots)

  -- the places take fewer than 2 ^ 63 bytes
  abbrev pub fit : List (Option R.Denot) → Fml
  fit slots = flt (length slots * type_size R) (2 ^ 63)

  -- the row that begins at this address; where that is no address, it has no places
  abbrev pub owns_row : Ptr → List (Option R.Denot) → Fml
  owns_row null_ptr slots = flt (length slots) 1
  owns_row (block_ptr b o) slots = fsep (fit slots) (owns_places b o slots)

  -- an empty place lends nothing
  abbrev pub lends_place : ℕ → ℕ → Option R.Denot → Lft → Fml
  lends_place b o None = nothing
  lends_place b o (Some x) = shared_of R x b o

  abbrev pub lends_places : ℕ → ℕ → List (Option R.Denot) → Lft → Fml
  lends_places b o [] = nothing
  lends_places b o (slot ∷ slots) =
      beside (lends_place b o slot) (lends_places b (o + type_size R) slots)

  abbrev pub lends_row : Ptr → List (Option R.Denot) → Lft → Fml
  lends_row null_ptr slots = said (flt (length slots) 1)
  lends_row (block_ptr b o) slots = beside (said (fit slots)) (lends_places b o slots)

  -- the allocator's token for a block of so many places
  abbrev pub owns_claim : (Ty → Ptr → Fml) → Ptr → ℕ → Fml
  owns_claim token start count = token (raw (ty_array (lone R.mir) count)) start
