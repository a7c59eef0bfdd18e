-- How a slot is found in a table, and one slot more.
use denote.Enum.Bare.{sameb}
use Rattle.std.proofs.Common.{◌≡◌, ℕ, ◌+◌, ◌<◌, ◌≤◌, get_or, Bool, true, false, cond, Option, Some, None, List, [], ◌∷◌, ◌++◌, length, refl, sym, ap, subst, ◌∙◌, arith, zero-add, length-append}
use Rattle.std.specs.Prelude.{◌&&◌, ◌==◌, is_some, not, nat_lt}
use Rattle.std.specs.BTreeMap.{BTreeMap, get, Updates}
use Rattle.std.specs.List.{list_any, position_from}
use Rattle.std.specs.Option.{option_or}
use Rattle.std.specs.Ordering.{is_eq}
use Rattle.std.specs.declared.cmp.Reverse.{Reverse}
use Rattle.std.proofs.lemmas.Bool.Decides.{nat_tests, Decides-eqb}
use Rattle.std.proofs.lemmas.Iterator.Adapters.{position_from-zero}
use Rattle.std.proofs.lemmas.Bool.{false≢true}
use Rattle.std.proofs.lemmas.List.Quantifiers.{all_pairs_push}
use Rattle.std.proofs.lemmas.List.Sums.{prefix_len-le-length}
use Rattle.list_laws.proofs.Members.{In, In-get, list_any-from_In}
use Rattle.list_laws.proofs.Searches.{position-any, position-push}
use Rattle.list_laws.proofs.Ties.{nat_ties, then_ties}
use Rattle.fpga_types.specs.Fabric.{same_axis, same_cell}
use Rattle.fpga_types.specs.Slots.{same_slot, slot_number}
use Rattle.fpga_types.specs.contracts.grid.Axis.{the_type as axis_type}
use Rattle.fpga_types.specs.contracts.grid.AxisOrd.TheImpl as axis_ord
use Rattle.fpga_types.specs.declared.grid.Axis.{Axis}
use Rattle.fpga_types.specs.declared.grid.Axis.TheVariants.{X, Y}
use Rattle.fpga_types.specs.declared.problem.Slot.{Slot}
use Rattle.fpga_types.proofs.MeetingLemmas.{both_true, same_cell-is, same_cell-itself}
use Rattle.fpga_bounds.specs.Pairs.{AreDistinct}
use Rattle.fpga_bounds.specs.SlotTable.{newest_first, slot_cmp, IsNumbered}

axis_ties : (a b : Axis) → is_eq ((axis_ord.ghosts).cmp a b) ≡ same_axis b a
axis_ties X X = refl
axis_ties X Y = refl
axis_ties Y X = refl
axis_ties Y Y = refl

last_apart : (n a x y : Bool) → (n && (a && (x && y))) ≡ (n && (a && x && y))
last_apart false a x y = refl
last_apart true false x y = refl
last_apart true true x y = refl

-- slots tie where they are one
pub slot_ties : (a b : Slot) → is_eq (slot_cmp a b) ≡ same_slot b a
slot_ties a b =
    then_ties _ _ _ _ (nat_ties a.net b.net)
    (then_ties _ _ _ _ (axis_ties a.cell.axis b.cell.axis)
    (then_ties _ _ _ _ (nat_ties a.cell.x b.cell.x) (nat_ties a.cell.y b.cell.y)))
    ∙ last_apart (b.net == a.net) (same_axis b.cell.axis a.cell.axis) (b.cell.x == a.cell.x)
    (b.cell.y == a.cell.y)

axis_equal : (a b : Axis) → sameb axis_type a b ≡ same_axis a b
axis_equal X X = refl
axis_equal X Y = refl
axis_equal Y X = refl
axis_equal Y Y = refl

-- slots are equal where they are one
pub slot_equal : (a b : Slot)
    → ((a.net == b.net)
    && (sameb axis_type a.cell.axis b.cell.axis
    && ((a.cell.x == b.cell.x) && (a.cell.y == b.cell.y))))
    ≡ same_slot a b
slot_equal a b =
    rw (axis_equal a.cell.axis b.cell.axis)
    (last_apart (a.net == b.net) (same_axis a.cell.axis b.cell.axis) (a.cell.x == b.cell.x)
    (a.cell.y == b.cell.y))

pub same_slot-is : (a b : Slot) → same_slot a b ≡ true → a ≡ b
same_slot-is a b h =
    let parts = both_true (a.net == b.net) (same_cell a.cell b.cell) h in
    let net = (Decides-eqb a.net b.net).0 parts.0 in
    let cell = same_cell-is a.cell b.cell parts.1 in
    λ i. record { net = net i; cell = cell i }

pub same_slot-itself : (a : Slot) → same_slot a a ≡ true
same_slot-itself a = rw ((Decides-eqb a.net a.net).1 refl, same_cell-itself a.cell) refl

pub same_slot-swap : (a b : Slot) → same_slot a b ≡ same_slot b a
same_slot-swap a b = go (same_slot a b) (same_slot b a) refl refl
  where
    go : (p q : Bool) → same_slot a b ≡ p → same_slot b a ≡ q → p ≡ q
    go true true e f = refl
    go false false e f = refl
    go true false e f =
        absurd (false≢true (sym f ∙ subst (λ (z : Slot). same_slot z a ≡ true) (same_slot-is a b e)
        (same_slot-itself a)))
    go false true e f =
        absurd (false≢true (sym e ∙ subst (λ (z : Slot). same_slot z b ≡ true) (same_slot-is b a f)
        (same_slot-itself b)))

-- one slot more stands once, where it was not found
once-push : (all : List Slot) (slot : Slot) → AreDistinct all →
    list_any (same_slot slot) all ≡ false → AreDistinct (all ++ slot ∷ [])
once-push all slot once new =
    all_pairs_push (λ a b. same_slot a b ≡ false) all slot once
    (λ k d lt. go (get_or all k d) (In-get all k d lt) (same_slot (get_or all k d) slot) refl)
  where
    go : (x : Slot) → In all x → (b : Bool) → same_slot x slot ≡ b → same_slot x slot ≡ false
    go x among false e = e
    go x among true e =
        absurd (false≢true (sym new
        ∙ list_any-from_In (same_slot slot) all x among (same_slot-swap slot x ∙ e)))

-- a number that is found is the slot's
pub number-found : (all : List Slot) (s : Slot) (n : ℕ) → position_from (same_slot s) 0 all ≡ Some n
    → slot_number all s ≡ n
number-found all s n h = go _ _ (position_from-zero (same_slot s) all ∙ h)
  where
    go : (b : Bool) (m : ℕ) → cond b (Some m) None ≡ Some n → m ≡ n
    go true m e = cc
    go false m e = cc

-- a slot that is not found has the number of slots
pub number-none : (all : List Slot) (s : Slot) → position_from (same_slot s) 0 all ≡ None
    → slot_number all s ≡ length all
number-none all s h = go _ _ refl (position_from-zero (same_slot s) all ∙ h)
  where
    go : (b : Bool) (m : ℕ) → nat_lt (slot_number all s) (length all) ≡ b → cond b (Some m) None
        ≡ None → slot_number all s ≡ length all
    go true m e f = cc
    go false m e f =
        let up : slot_number all s ≤ length all =
        prefix_len-le-length (λ x. not (same_slot s x)) all in grind (arith, nat_tests)

-- a slot more, where it was not found
pub numbered-push : (all : List Slot) (slot q : Slot) → list_any (same_slot slot) all ≡ false
    → cond (is_eq (slot_cmp q slot)) (Some (length all)) (position_from (same_slot q) 0 all)
    ≡ position_from (same_slot q) 0 (all ++ slot ∷ [])
numbered-push all slot q h =
    rw (
      slot_ties q slot,
      same_slot-swap slot q,
      position-push (same_slot q) 0 all slot,
    ) (go (same_slot q slot) refl)
  where
    none : (o : Option ℕ) → is_some o ≡ false → o ≡ None
    none None e = refl
    none (Some n) e = cc

    go : (b : Bool) → same_slot q slot ≡ b
        → cond b (Some (length all)) (position_from (same_slot q) 0 all)
        ≡ option_or (position_from (same_slot q) 0 all) (cond b (Some (0 + length all)) None)
    go true e =
        let one : q ≡ slot = same_slot-is q slot e in
        let none_here : list_any (same_slot q) all ≡ false =
        subst (λ (w : Slot). list_any (same_slot w) all ≡ false) (sym one) h in
        rw (
          none (position_from (same_slot q) 0 all) (position-any (same_slot q) 0 all ∙ none_here),
          zero-add,
        ) refl
    go false e = keep (position_from (same_slot q) 0 all)
      where
        keep : (o : Option ℕ) → o ≡ option_or o None
        keep None = refl
        keep (Some n) = refl

-- whether a table has a slot, by its numbers
pub has-numbered : (all : List Slot) (numbers : BTreeMap (Reverse Slot) ℕ) (s : Slot)
    → IsNumbered all numbers
    → is_some (get newest_first numbers (record { 0 = s })) ≡ list_any (same_slot s) all
has-numbered all numbers s h =
    ap is_some (h.found (record { 0 = s })) ∙ position-any (same_slot s) 0 all

-- a table with one slot more
pub numbered-more : (all : List Slot) (m n : BTreeMap (Reverse Slot) ℕ) (slot : Slot) (k : ℕ)
    → IsNumbered all m → list_any (same_slot slot) all ≡ false → length all < 200000 → k
    ≡ length all → Updates newest_first m n (record { 0 = slot }) (Some k)
    → IsNumbered (all ++ slot ∷ []) n
numbered-more all m n slot k h new room e u = record {
  once = once-push all slot h.once new;
  found = λ q. u.0 q ∙ rw (e, h.found q) (numbered-push all slot q.0 new);
  limit = rw length-append (omega arith);
}
