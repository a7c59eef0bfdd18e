-- The pairs of a route: slots of different nets that take one cell.
use Rattle.std.proofs.Common.{◌≡◌, ◌≢◌, ℕ, ◌<◌, Bool, true, false, List, length, Some, None, refl, sym, ap, subst, ◌∙◌, arith}
use Rattle.std.specs.Prelude.{◌==◌, ◌&&◌, not, nat_lt, filter_map, if◌then◌else◌}
use Rattle.std.specs.List.{enumerate_from}
use Rattle.std.proofs.lemmas.Bool.{false≢true}
use Rattle.std.proofs.lemmas.Bool.Decides.{Decides-eqb, nat_tests}
use Rattle.std.proofs.lemmas.Option.{get_or_from_slice_get, slice_get_within}
use Rattle.list_laws.proofs.Members.{In, In-filter_map, In-flat_map, from_In-filter_map, from_In-flat_map}
use Rattle.list_laws.proofs.Numbered.{In-enumerate, from_In-enumerate}
use Rattle.list_laws.proofs.Places.{some_is}
use Rattle.fpga_types.specs.Fabric.{same_cell}
use Rattle.fpga_types.specs.Slots.{NO_SLOT, compete, pairs, slot_at}
use Rattle.fpga_types.specs.declared.problem.Slot.{Slot}
use Rattle.fpga_types.proofs.MeetingLemmas.{both_true, same_cell-is, same_cell-itself}
use Rattle.fpga_bounds.proofs.PairLemmas.{pair_of}

-- two slots that compete are a pair, the lower first
pub pair-in : (all : List Slot) (a b : ℕ) → a < b → b < length all
    → compete (slot_at all a) (slot_at all b) ≡ true → In (pairs all) (a, b)
pair-in all a b low high h =
    let made : pair_of (a, slot_at all a) (b, slot_at all b) ≡ Some (a, b) =
    rw (is_below a b low, h) refl in
    let at_a : In (enumerate_from 0 all) (a, slot_at all a) =
    subst (λ (n : ℕ). In (enumerate_from 0 all) (n, slot_at all a)) (omega arith)
    (In-enumerate 0 all a NO_SLOT (omega arith)) in
    let at_b : In (enumerate_from 0 all) (b, slot_at all b) =
    subst (λ (n : ℕ). In (enumerate_from 0 all) (n, slot_at all b)) (omega arith)
    (In-enumerate 0 all b NO_SLOT high) in
    In-flat_map (λ s. filter_map (pair_of s) (enumerate_from 0 all)) (enumerate_from 0 all)
    (a, slot_at all a) (a, b) at_a
    (In-filter_map (pair_of (a, slot_at all a)) (enumerate_from 0 all) (b, slot_at all b)
    (a, b) at_b made)
  where
    is_below : (m n : ℕ) → m < n → nat_lt m n ≡ true
    is_below m n g = grind (arith, nat_tests)

below_is : (m n : ℕ) → nat_lt m n ≡ true → m < n
below_is m n h = grind (arith, nat_tests)

-- what a pair of slots is
pub record IsPair (all : List Slot) (p : ℕ × ℕ) : Type 0 where
  pub order : p.0 < p.1
  pub within : p.1 < length all
  pub compete : compete (slot_at all p.0) (slot_at all p.1) ≡ true

pub from-pair : (all : List Slot) (p : ℕ × ℕ) → In (pairs all) p → IsPair all p
from-pair all p i =
    let r = from_In-flat_map (λ s. filter_map (pair_of s) (enumerate_from 0 all))
    (enumerate_from 0 all) p i in
    let q = from_In-filter_map (pair_of r.0) (enumerate_from 0 all) p r.2 in
    let a = from_In-enumerate 0 all r.0 r.1 in
    let b = from_In-enumerate 0 all q.0 q.1 in
    let num_a : r.0.0 ≡ a.0 = omega (arith, a.1) in
    let num_b : q.0.0 ≡ b.0 = omega (arith, b.1) in
    let at_a : slot_at all a.0 ≡ r.0.1 = get_or_from_slice_get all a.0 r.0.1 NO_SLOT a.2 in
    let at_b : slot_at all b.0 ≡ q.0.1 = get_or_from_slice_get all b.0 q.0.1 NO_SLOT b.2 in
    let made = go r.0.0 q.0.0 (compete r.0.1 q.0.1) q.2 in
    let first : p.0 ≡ a.0 = made.2 ∙ num_a in
    let second : p.1 ≡ b.0 = made.3 ∙ num_b in
    record {
      order = omega (arith, made.0, made.2, made.3);
      within = omega (arith, second, slice_get_within all b.0 q.0.1 b.2);
      compete =
          subst (λ (m : ℕ). compete (slot_at all m) (slot_at all p.1) ≡ true) (sym first)
          (subst (λ (m : ℕ). compete (slot_at all a.0) (slot_at all m) ≡ true) (sym second)
          (subst (λ (x : Slot). compete x (slot_at all b.0) ≡ true) (sym at_a)
          (subst (λ (y : Slot). compete r.0.1 y ≡ true) (sym at_b) made.1)));
    }
  where
    go : (m n : ℕ) (c : Bool) → (if nat_lt m n && c then Some (m, n) else None) ≡ Some p
        → (m < n) × (c ≡ true) × (p.0 ≡ m) × (p.1 ≡ n)
    go m n c h = cases (nat_lt m n) c refl h
      where
        cases : (l d : Bool) → nat_lt m n ≡ l → (if l && d then Some (m, n) else None) ≡ Some p
            → (m < n) × (d ≡ true) × (p.0 ≡ m) × (p.1 ≡ n)
        cases true true e g = let same : (m, n) ≡ p =
            some_is g in (
              below_is m n e,
              refl,
              ap (λ (w : ℕ × ℕ). w.0) (sym same),
              ap
                  (λ (w : ℕ × ℕ). w.1) (sym same),
            )
        cases true false e g = cc
        cases false d e g = cc

pub differs : (a b : ℕ) → a ≢ b → (a == b) ≡ false
differs a b h = grind (arith, nat_tests)

pub competing : (a b : Slot) → a.net ≢ b.net → a.cell ≡ b.cell → compete a b ≡ true
competing a b nets cells = rw (differs a.net b.net nets, cells, same_cell-itself b.cell) refl

pub competes-as : (a b : Slot) → compete a b ≡ true → (a.net ≢ b.net) × (a.cell ≡ b.cell)
competes-as a b h =
    let parts = both_true (not (a.net == b.net)) (same_cell a.cell b.cell) h in (
      λ e. false≢true
          (subst (λ (c : Bool). not c ≡ true)
          ((Decides-eqb a.net b.net).1 e) parts.0),
      same_cell-is a.cell b.cell parts.1,
    )
