-- What a row lends can be copied, and a borrow of the row gives it.
use Prim.Native.Nat.{ℕ, ◌+◌}
use Rattle.std.specs.Prelude.{List, [], ◌∷◌, length, Option, Some, None}
use Rattle.std.specs.Mem.{type_size}
use seplogic.Ra.Ura.{Ura}
use base.Fml.{Lft, Incl, flt, ftrue}
use types.Logic.{Logic}
use denote.RattleType.{RattleType, RowLaws}
use denote.Param.Laws.{Laws}
use denote.RawPtr.{Ptr, block_ptr, null_ptr}
use denote.Sharing.{ShrLaws, said}
use denote.SharingLaws.{beside_shr_laws, nothing_shr_laws, said_shr_laws}
use denote.Shares.{Shares-less}
use denote.Struct.Lending.{Lends, Lends-both, Lends-nothing, Lends-said}
use Rattle.sat_arena.specs.Ownership as own

module _ (R : RattleType) (laws : RowLaws R) where
  abbrev Slot : Type 0
  Slot = Option R.Denot

  copied_place : (b o : ℕ) (slot : Slot) → ShrLaws (own.lends_place R b o slot)
  copied_place b o None = nothing_shr_laws
  copied_place b o (Some x) = laws x b o

  copied_places : (b o : ℕ) (slots : List Slot) → ShrLaws (own.lends_places R b o slots)
  copied_places b o [] = nothing_shr_laws
  copied_places b o (slot ∷ slots) =
      beside_shr_laws _ _ (copied_place b o slot) (copied_places b (o + type_size R) slots)

  -- what the row lends can be copied, and used for a shorter time
  pub copied_row : (p : Ptr) (slots : List Slot) → ShrLaws (own.lends_row R p slots)
  copied_row null_ptr slots = said_shr_laws (flt (length slots) 1) tt
  copied_row (block_ptr b o) slots =
      beside_shr_laws _ _ (said_shr_laws (own.fit R slots) tt) (copied_places b o slots)

module _ {M : Type 1} {𝓤 : Ura M} (𝓛 : Logic 𝓤) (l : Lft) (R : RattleType) (laws : Laws R)
    (longer : Incl l R.lives) where
  abbrev Item : Type 0
  Item = Option R.Denot

  lent_place : (b o : ℕ) (slot : Item) →
      Lends 𝓛 (own.owns_place R b o slot) (own.lends_place R b o slot) l
  lent_place b o None = Lends-nothing 𝓛 (own.owns_place R b o None) l
  lent_place b o (Some x) = λ κ ts. Shares-less 𝓛 R R.lives l longer (laws.shares 𝓛) x κ ts b o

  lent_places : (b o : ℕ) (slots : List Item) →
      Lends 𝓛 (own.owns_places R b o slots) (own.lends_places R b o slots) l
  lent_places b o [] = Lends-nothing 𝓛 ftrue l
  lent_places b o (slot ∷ slots) =
      Lends-both 𝓛 (own.owns_place R b o slot) (own.owns_places R b (o + type_size R) slots)
      (own.lends_place R b o slot) (own.lends_places R b (o + type_size R) slots) l
      (lent_place b o slot) (lent_places b (o + type_size R) slots)

  -- a borrow of the row gives what the row lends
  pub lent_row : (p : Ptr) (slots : List Item) →
      Lends 𝓛 (own.owns_row R p slots) (own.lends_row R p slots) l
  lent_row null_ptr slots = Lends-said 𝓛 (flt (length slots) 1) tt l
  lent_row (block_ptr b o) slots =
      Lends-both 𝓛 (own.fit R slots) (own.owns_places R b o slots)
      (said (own.fit R slots)) (own.lends_places R b o slots) l
      (Lends-said 𝓛 (own.fit R slots) tt l) (lent_places b o slots)
