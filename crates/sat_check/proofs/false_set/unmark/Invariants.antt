use Rattle.std.proofs.Common.{◌≡◌, ℕ, false, length, take}
use Rattle.std.specs.Prelude.{IsTrue}
use Rattle.sat_clause.specs.declared.literal.Lit.{Lit}
use Rattle.sat_clause.specs.Literal.{is_among}
use Rattle.sat_check.specs.Bits.{is_set}
use Rattle.sat_check.specs.FalseStore.{slot_of}
use Rattle.sat_check.proofs.false_set.unmark.Given as goal

-- the marks of the literals so far are away, and none has come
abbrev pub invariant-loop-l : goal.invariant-loop-l
invariant-loop-l l = record {
  many : length l.marks ≡ length l.initial.marks;
  unmarked : (m : Lit) → IsTrue (is_among (take l.l-index l.lits) m) →
      is_set l.marks (slot_of m.code) ≡ false;
  others : (at : ℕ) → is_set l.initial.marks at ≡ false → is_set l.marks at ≡ false;
}
