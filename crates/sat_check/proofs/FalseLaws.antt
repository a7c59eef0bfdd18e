-- The literals of a set, whatever their order, and its marks.
use Rattle.std.proofs.Common.{◌≡◌, ℕ, Bool, true, false, List, refl, sym, ◌∙◌}
use Rattle.std.specs.Prelude.{reverse, IsTrue}
use Rattle.std.specs.Ordering.{int_eq}
use Rattle.std.proofs.lemmas.List.Sorted.{list_any-IsPermutation, IsPermutation-reverse}
use Rattle.sat_clause.specs.declared.literal.Lit.{Lit}
use Rattle.sat_clause.specs.Literal.{is_among}
use Rattle.sat_check.specs.Bits.{is_set}
use Rattle.sat_check.specs.FalseStore.{slot_of}

-- turned round, a list has the same literals
pub is_among-reverse : (lits : List Lit) (l : Lit) → is_among (reverse lits) l ≡ is_among lits l
is_among-reverse lits l =
    sym (list_any-IsPermutation (λ m. int_eq m.code l.code) lits (reverse lits)
    (IsPermutation-reverse lits))

-- where the marks of a set's literals are taken away, and none has come, none is left
pub none_is_marked : (old new : List ℕ) (trail : List Lit) →
    ((l : Lit) → is_set old (slot_of l.code) ≡ is_among (reverse trail) l) →
    ((l : Lit) → IsTrue (is_among trail l) → is_set new (slot_of l.code) ≡ false) →
    ((at : ℕ) → is_set old at ≡ false → is_set new at ≡ false) →
    (l : Lit) → is_set new (slot_of l.code) ≡ false
none_is_marked old new trail marked unmarked others l = by (is_among trail l) refl
  where
    by : (b : Bool) → is_among trail l ≡ b → is_set new (slot_of l.code) ≡ false
    by true is = unmarked l is
    by false is = others (slot_of l.code) (marked l ∙ is_among-reverse trail l ∙ is)
